use Rattle.reading.specs.Input.{u32_at}
use Rattle.verifier.proofs.Walks.{seen_answer}
use Rattle.verifier.proofs.verifier.Verifier.get_uoffset.Goals as goal

pub returns : goal.returns
unfolding u32_at
returns c = seen_answer (λ b. u32_at b c.args.pos) c.read_u32.result c.read_u32.ensures c.in_ok-in_buffer.ensures

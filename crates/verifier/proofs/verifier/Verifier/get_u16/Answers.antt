use Rattle.reading.specs.Input.{u16_at}
use Rattle.verifier.proofs.Walks.{seen_answer}
use Rattle.verifier.proofs.verifier.Verifier.get_u16.Goals as goal

pub returns : goal.returns
unfolding u16_at
returns c = seen_answer (λ b. u16_at b c.args.pos) c.read_u16.result c.read_u16.ensures c.in_ok-in_buffer.ensures

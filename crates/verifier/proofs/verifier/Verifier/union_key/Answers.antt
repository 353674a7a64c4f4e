use Rattle.reading.specs.declared.invalid.TraceRecord.TheVariants.{TableField}
use Rattle.reading.specs.Reading.{union_key}
use Rattle.verifier.proofs.Walks.{seen_told, told_within, told_result}
use Rattle.verifier.proofs.verifier.Verifier.union_key.Goals as goal

pub returns : goal.returns
unfolding union_key
returns c =
    told_result c.append_trace.ensures.result
    (told_within (TableField c.args.slot c.args.position) (seen_told c.get_u8-res.ensures) c.append_trace.ensures.wrote)

use Rattle.entry_fields.proofs.Fronts.{long_none}
use Rattle.entry_fields.proofs.fields.long_text_at.Goals as goal

pub returns-clause-none : goal.returns-clause-none
returns-clause-none c =
    λ is. long_none c.args.bytes.now c.in_ok-length.rest.now c.in_ok-length.length c.in_ok-length.ensures.fits c.in_ok-length.ensures.found (c.text_of_length.ensures.none is)

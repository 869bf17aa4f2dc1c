use Rattle.entry_fields.proofs.Fronts.{short_none}
use Rattle.entry_fields.proofs.fields.short_text_at.Goals as goal

pub returns-clause-none : goal.returns-clause-none
returns-clause-none c =
    λ is. short_none c.args.bytes.now c.in_ok-size.rest.now c.in_ok-size.size c.in_ok-size.ensures.fits c.in_ok-size.ensures.found (c.text_of_length.ensures.none is)

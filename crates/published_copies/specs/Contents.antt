-- What an operation does to what both copies have in common.
use Rattle.published_copies.specs.declared.copies.Content.{Content}
use Rattle.published_copies.specs.declared.copies.Operation.{Operation}
use Rattle.published_copies.specs.declared.copies.Operation.TheVariants.{Added, Ended, Marked}
use Rattle.published_copies.specs.Stages.{with_entry, with_end}

abbrev pub applied : {E : Type 0} → Content E → Operation E → Content E
applied content (Added entry) = record { stage = with_entry content.stage entry; mark = content.mark }
applied content Ended = record { stage = with_end content.stage; mark = content.mark }
applied content (Marked mark) = record { stage = content.stage; mark = mark }

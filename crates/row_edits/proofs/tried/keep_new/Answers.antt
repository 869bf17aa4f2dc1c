use Rattle.std.proofs.Common.{rules}
use Rattle.std.proofs.lemmas.Fn.{filter_same}
use Rattle.row_tables.specs.Tables.{state_of}
use Rattle.row_edits.specs.Parts.{is_new}
use Rattle.row_edits.proofs.tried.keep_new.Goals as goal

pub returns : goal.returns
returns c = filter_same _ (is_new (state_of c.args.rows.now)) _ (λ x b f k. search rules) _ _ c.retain.ensures.filtered

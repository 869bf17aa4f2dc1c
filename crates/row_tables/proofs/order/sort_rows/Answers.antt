use Rattle.std.proofs.Common.{◌∙◌, rules}
use Rattle.std.proofs.lemmas.Fn.{dedup_same}
use Rattle.std.proofs.lemmas.List.Kept.{IsStrictlySortedBy-dedup}
use Rattle.std.proofs.lemmas.List.Sorted.{answers_always, ranks_by}
use Rattle.std.specs.Ordering.{is_lt}
use Rattle.acl_model.proofs.SameRows.{equal_from_same_row, same_row_itself}
use Rattle.acl_model.specs.Rows.{same_row}
use Rattle.acl_model.specs.declared.row.Row.{Row}
use Rattle.row_tables.specs.Order.{row_cmp}
use Rattle.row_tables.proofs.Members.{members-dedup, members-permutation}
use Rattle.row_tables.proofs.RowOrder.{row_equiv, row_ties, row_total}
use Rattle.row_tables.proofs.order.sort_rows.Goals as goal

pub returns-clause-same : goal.returns-clause-same
returns-clause-same c = λ row.
    rw (dedup_same _ same_row _ (λ x y b f x' y' k. search rules) _ _ c.dedup_by.ensures.filtered)
    (members-dedup same_row equal_from_same_row same_row_itself row_equiv _ row
    ∙ members-permutation same_row equal_from_same_row same_row_itself _ _ c.sort_by.ensures.permutation row)

pub returns-clause-order : goal.returns-clause-order
returns-clause-order c =
    rw (dedup_same _ same_row _ (λ x y b f x' y' k. search rules) _ _ c.dedup_by.ensures.filtered)
    (IsStrictlySortedBy-dedup row_total row_ties _
    (c.in_ok-sort_by.ensures.sorted (λ x y. is_lt (row_cmp x y)) (ranks_by row_total (λ (x : Row). x)) (answers_always _ _ _ (λ f a r g h. search rules))))

use Rattle.std.proofs.Common.{◌∙◌, ap, is_some}
use Rattle.std.proofs.lemmas.List.Filters.{dedup_is}
use Rattle.std.proofs.lemmas.List.Kept.{IsStrictlySortedBy-dedup}
use Rattle.acl_names.proofs.SameAuth.{equal_from_same_auth, same_auth_itself}
use Rattle.acl_names.specs.AuthId.{same_auth}
use Rattle.row_tables.specs.Tables.{state_of}
use Rattle.row_tables.proofs.Listed.{names_listed}
use Rattle.row_tables.proofs.Members.{auth_equiv, auth_ties, auth_total, members-dedup, members-permutation}
use Rattle.numbered_rows.specs.Numbering.{number_of}
use Rattle.row_tables.proofs.rows.Rows.accounts.Goals as goal

pub returns-clause-accounts : goal.returns-clause-accounts
unfolding state_of
returns-clause-accounts c = λ a.
    rw (c.from_vec.ensures, dedup_is same_auth _ _ c.dedup.ensures.filtered)
    (members-dedup same_auth equal_from_same_auth same_auth_itself auth_equiv _ a
    ∙ members-permutation same_auth equal_from_same_auth same_auth_itself _ _ c.sort.ensures.permutation a
    ∙ rw c.in_ok-names.ensures (names_listed c.self.inside.accounts.names c.as_slice.result.now c.as_slice.ensures a)
    ∙ ap (λ t. is_some (number_of t.accounts.names a)) c.self.view_is)

pub returns-clause-order : goal.returns-clause-order
returns-clause-order c =
    rw (c.from_vec.ensures, dedup_is same_auth _ _ c.dedup.ensures.filtered)
    (IsStrictlySortedBy-dedup auth_total auth_ties _ c.in_ok-sort.ensures.sorted)

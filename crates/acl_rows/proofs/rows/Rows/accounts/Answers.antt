use Rattle.std.proofs.Common.{◌∙◌}
use Rattle.std.proofs.lemmas.List.Filters.{dedup_is}
use Rattle.std.proofs.lemmas.List.Kept.{IsStrictlySortedBy-dedup}
use Rattle.acl_names.proofs.SameAuth.{equal_from_same_auth, same_auth_itself}
use Rattle.acl_names.specs.AuthId.{same_auth}
use Rattle.acl_rows.specs.Tables.{state_of}
use Rattle.acl_rows.proofs.Differ.{among_is_has}
use Rattle.acl_rows.proofs.Members.{auth_equiv, auth_ties, auth_total, members-dedup, members-permutation}
use Rattle.acl_rows.proofs.rows.Rows.accounts.Goals as goal

pub returns-clause-accounts : goal.returns-clause-accounts
unfolding state_of
returns-clause-accounts c = λ a.
    rw (c.from_vec.ensures, dedup_is same_auth _ _ c.dedup.ensures.filtered)
    (members-dedup same_auth equal_from_same_auth same_auth_itself auth_equiv _ a
    ∙ members-permutation same_auth equal_from_same_auth same_auth_itself _ _ c.sort.ensures.permutation a
    ∙ rw (c.in_ok-names.ensures, c.deref.ensures.value, ← c.self.view_is) (among_is_has a c.self.inside.accounts.items))

pub returns-clause-order : goal.returns-clause-order
returns-clause-order c =
    rw (c.from_vec.ensures, dedup_is same_auth _ _ c.dedup.ensures.filtered)
    (IsStrictlySortedBy-dedup auth_total auth_ties _ c.in_ok-sort.ensures.sorted)

use Rattle.std.proofs.Common.{◌≡◌, ◌∙◌, ℕ, List, rules}
use Rattle.std.proofs.lemmas.Cmp.{lists_total, nat_cmp_total}
use Rattle.std.proofs.lemmas.List.Filters.{dedup_is}
use Rattle.std.proofs.lemmas.List.Kept.{IsStrictlySortedBy-dedup}
use Rattle.std.specs.Cmp.{IsEquivalence, IsTotalOrder}
use Rattle.std.specs.Cmp.Rules.{comparing}
use Rattle.std.specs.Ordering.{eq_by_cmp}
use Rattle.acl_names.proofs.SameAuth.{equal_from_text_eq, text_eq_itself}
use Rattle.acl_names.specs.Text.{text_cmp, text_eq}
use Rattle.acl_rows.proofs.Members.{members-dedup, members-permutation}
use Rattle.priv_map.proofs.restrictions.restricted_schemas.Goals as goal

text_total : IsTotalOrder text_cmp
text_total = lists_total nat_cmp_total

text_ties : (a b : List ℕ) → text_eq a b ≡ eq_by_cmp text_cmp a b
text_ties = search (comparing, rules)

text_equiv : IsEquivalence text_eq
text_equiv = search (comparing, rules)

pub returns-clause-listed : goal.returns-clause-listed
returns-clause-listed c = λ s.
    rw (dedup_is text_eq _ _ c.dedup.ensures.filtered)
    (members-dedup text_eq equal_from_text_eq text_eq_itself text_equiv _ s
    ∙ members-permutation text_eq equal_from_text_eq text_eq_itself _ _ c.sort.ensures.permutation s
    ∙ c.in_ok-schemas.ensures s)

pub returns-clause-order : goal.returns-clause-order
returns-clause-order c =
    rw (dedup_is text_eq _ _ c.dedup.ensures.filtered)
    (IsStrictlySortedBy-dedup text_total text_ties _ c.in_ok-sort.ensures.sorted)

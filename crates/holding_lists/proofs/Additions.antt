-- Holdings that come to a list one after the other.
use Rattle.std.proofs.Common.{◌≡◌, ◌∙◌, sym, ap, Bool, false, ◌||◌, List, [], ◌∷◌, ◌++◌}
use Rattle.std.specs.List.{list_any}
use Rattle.std.proofs.lemmas.List.Folds.{list_any-append}
use Rattle.std.proofs.Math.Bool.{or-false, or_assoc}
use Rattle.account_holdings.specs.Holdings.{same_holding}
use Rattle.account_holdings.specs.declared.holding.Holding.{Holding}
use Rattle.holding_lists.specs.Additions.{Adds}

-- one test as good as another
pub adds_same : (old new : List Holding) (test other : Holding → Bool) → ((h : Holding) → test h ≡ other h) → Adds old new test → Adds old new other
adds_same old new test other alike adds h = adds h ∙ ap (λ b. list_any (same_holding h) old || b) (alike h)

pub adds_none : (list : List Holding) (test : Holding → Bool) → ((h : Holding) → test h ≡ false) → Adds list list test
adds_none list test none h = sym (or-false (list_any (same_holding h) list)) ∙ ap (λ b. list_any (same_holding h) list || b) (sym (none h))

pub adds_one : (list new : List Holding) (one made : Holding) → made ≡ one → new ≡ list ++ made ∷ [] → Adds list new (λ h. same_holding h one)
adds_one list new one made equal is_new h =
    ap (list_any (same_holding h)) is_new
    ∙ list_any-append (same_holding h) list (made ∷ [])
    ∙ ap (λ b. list_any (same_holding h) list || b) (or-false (same_holding h made) ∙ ap (same_holding h) equal)

pub adds_both : (old mid new : List Holding) (first second : Holding → Bool) → Adds old mid first → Adds mid new second → Adds old new (λ h. first h || second h)
adds_both old mid new first second before after h =
    after h ∙ ap (λ b. b || second h) (before h) ∙ or_assoc (list_any (same_holding h) old) (first h) (second h)

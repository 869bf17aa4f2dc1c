-- The first limit that is exceeded.
use Rattle.std.proofs.Common.{◌≡◌, List, [], ◌∷◌, ◌++◌, subst, sym}
use Rattle.acl_model.specs.Acceptance.{limits_in_order}
use Rattle.acl_model.specs.Firsts.{HasNone, IsFirst}
use Rattle.acl_stmt.specs.declared.refusal.Full.{Full as FullOf}
use Rattle.acl_stmt.specs.declared.refusal.Refusal.{Refusal}
use Rattle.acl_stmt.specs.declared.refusal.Refusal.TheVariants.{Full, NoMemory}
use Rattle.acl_apply.specs.Causes.{IsOverLimit}

pub none_of_more : {X : Type 0} (P : X → Type 0) (x : X) (xs : List X) → (P x → ⊥) → HasNone P xs → HasNone P (x ∷ xs)
none_of_more P x xs not_first rest [] item later split has =
    let same : item ≡ x = cc in
    not_first (subst P same has)
none_of_more P x xs not_first rest (first ∷ earlier) item later split has =
    let same : xs ≡ earlier ++ item ∷ later = cc in
    rest earlier item later same has

-- the limit is the first one, where none before it is exceeded
pub first_over : (P : FullOf → Type 0) (before rest : List FullOf) (what : FullOf) → limits_in_order ≡ before ++ what ∷ rest → HasNone P before
    → (e : Refusal) → IsOverLimit (λ full. (full ≡ what) × P what) e → IsOverLimit (IsFirst P limits_in_order) e
first_over P before rest what split none NoMemory is = tt
first_over P before rest what split none (Full full) is =
    subst (λ (f : FullOf). IsFirst P limits_in_order f) (sym is.0) (record { before = before; rest = rest; split = split; has = is.1; none_before = none })
first_over P before rest what split none _ is = absurd is

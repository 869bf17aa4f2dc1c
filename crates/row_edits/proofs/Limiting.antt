-- The first limit that is exceeded.
use Rattle.std.proofs.Common.{◌≡◌, List, [], ◌∷◌, ◌++◌, Result, Ok, Err, subst, sym}
use Rattle.std.specs.Result.{IfErr}
use Rattle.acl_model.specs.Acceptance.{limits_in_order}
use Rattle.acl_model.specs.Firsts.{HasNone, IsFirst}
use Rattle.acl_stmt.specs.declared.refusal.Full.{Full}

pub if_err_weaker : {X E : Type 0} (result : Result X E) (P Q : E → Type 0) → ((e : E) → P e → Q e) → IfErr result P → IfErr result Q
if_err_weaker (Ok x) P Q weaker is = tt
if_err_weaker (Err e) P Q weaker is = weaker e is

pub none_of_none : {X : Type 0} (P : X → Type 0) → HasNone P []
none_of_none P [] item later split has = cc
none_of_none P (x ∷ earlier) item later split has = cc

pub none_of_more : {X : Type 0} (P : X → Type 0) (x : X) (xs : List X) → (P x → ⊥) → HasNone P xs → HasNone P (x ∷ xs)
none_of_more P x xs not_first rest [] item later split has =
    let same : item ≡ x = cc in
    not_first (subst P same has)
none_of_more P x xs not_first rest (first ∷ earlier) item later split has =
    let same : xs ≡ earlier ++ item ∷ later = cc in
    rest earlier item later same has

-- the limit is the first one, where none before it is exceeded
pub first_over : (P : Full → Type 0) (before rest : List Full) (what : Full) → limits_in_order ≡ before ++ what ∷ rest → HasNone P before
    → (full : Full) → (full ≡ what) × P what → IsFirst P limits_in_order full
first_over P before rest what split none full is =
    subst (λ (f : Full). IsFirst P limits_in_order f) (sym is.0) (record { before = before; rest = rest; split = split; has = is.1; none_before = none })

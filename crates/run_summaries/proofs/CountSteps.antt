-- The answers of one session more are counted.
use Rattle.std.proofs.Common.{◌≡◌, ◌∙◌, ℕ, ◌+◌, ◌<◌, Bool, List, [], ◌∷◌, ◌++◌, length, take, get_or, cond, ap, append-nil}
use Rattle.std.specs.List.{count_by, flat_map}
use Rattle.std.proofs.lemmas.Grind.{flat_map-append}
use Rattle.std.proofs.lemmas.List.{take_more}
use Rattle.std.proofs.lemmas.List.Sums.{sum_by-append}

pub session_more : {A X : Type 0} (p : X → Bool) (f : A → List X) (sessions : List A) (i : ℕ) (d : A) → i < length sessions
    → count_by p (flat_map f (take (i + 1) sessions)) ≡ count_by p (flat_map f (take i sessions)) + count_by p (f (get_or sessions i d))
session_more p f sessions i d below =
    ap (λ xs. count_by p (flat_map f xs)) (take_more sessions i d below)
    ∙ ap (count_by p) (flat_map-append f (take i sessions) (get_or sessions i d ∷ []) ∙ ap (λ ys. flat_map f (take i sessions) ++ ys) (append-nil (f (get_or sessions i d))))
    ∙ sum_by-append (λ x. cond (p x) 1 0) (flat_map f (take i sessions)) (f (get_or sessions i d))

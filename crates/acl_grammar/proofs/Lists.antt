-- Facts on lists and on the token that comes next.
use Rattle.std.proofs.Common.{◌≡◌, ◌++◌, ◌∷◌, [], Bool, false, List, ap, refl, sym, ◌∙◌}
use Rattle.acl_grammar.specs.Reader.{begins, next}

pub begins_alike : {T : Type 0} (p : T → Bool) (us ws : List T) → next us ≡ next ws → begins p us ≡ begins p ws
begins_alike p [] [] e = refl
begins_alike p [] (w ∷ ws) e = cc
begins_alike p (u ∷ us) [] e = cc
begins_alike p (u ∷ us) (w ∷ ws) e = let same : u ≡ w = cc in ap p same

pub alike_append : {T : Type 0} (fs us ws : List T) → next us ≡ next ws → next (fs ++ us) ≡ next (fs ++ ws)
alike_append [] us ws e = e
alike_append (f ∷ fs) us ws e = refl

-- a class within another one
pub begins_within : {T : Type 0} (p q : T → Bool) → ((t : T) → p t ≡ false → q t ≡ false) → (ts : List T)
    → begins p ts ≡ false → begins q ts ≡ false
begins_within p q within [] h = refl
begins_within p q within (t ∷ ts) h = within t h

-- a reader that stops at once where a front was followed by tokens that begin alike
pub begins_behind : {T : Type 0} (p : T → Bool) (b : Bool) (ts front us rest : List T) → ts ≡ front ++ rest → next us ≡ next rest
    → begins p ts ≡ b → begins p (front ++ us) ≡ b
begins_behind p b ts front us rest whole alike h =
    begins_alike p (front ++ us) (front ++ rest) (alike_append front us rest alike) ∙ ap (begins p) (sym whole) ∙ h

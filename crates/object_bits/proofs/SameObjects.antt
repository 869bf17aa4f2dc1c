-- Objects are the same exactly where they are equal.
use Rattle.std.proofs.Common.{◌≡◌, ◌∙◌, ◌&&◌, true, List, ℕ, refl, ap}
use Rattle.std.proofs.lemmas.Bool.{and_parts}
use Rattle.acl_names.proofs.SameAuth.{equal_from_text_eq, text_eq_itself}
use Rattle.acl_names.specs.Text.{text_eq}
use Rattle.object_bits.specs.Objects.{same_object}
use Rattle.object_bits.specs.declared.object.Object.{Object}
use Rattle.object_bits.specs.declared.object.Object.TheVariants.{Table, Column, Function, Procedure}

pub same_object_itself : (object : Object) → same_object object object ≡ true
same_object_itself (Table s t) = rw (text_eq_itself s, text_eq_itself t) refl
same_object_itself (Column s t c) = rw (text_eq_itself s, text_eq_itself t, text_eq_itself c) refl
same_object_itself (Function s f) = rw (text_eq_itself s, text_eq_itself f) refl
same_object_itself (Procedure s f) = rw (text_eq_itself s, text_eq_itself f) refl

two_texts : (object : List ℕ → List ℕ → Object) (s u t v : List ℕ) → (text_eq s u && text_eq t v) ≡ true → object s t ≡ object u v
two_texts object s u t v same =
    let parts = and_parts (text_eq s u) (text_eq t v) same in
    ap (λ (x : List ℕ). object x t) (equal_from_text_eq s u parts.0) ∙ ap (object u) (equal_from_text_eq t v parts.1)

-- objects that are the same are equal
pub equal_from_same_object : (a b : Object) → same_object a b ≡ true → a ≡ b
equal_from_same_object (Table s t) (Table u v) same = two_texts Table s u t v same
equal_from_same_object (Column s t c) (Column u v d) same =
    let parts = and_parts (text_eq s u && text_eq t v) (text_eq c d) same in
    two_texts (λ x y. Column x y c) s u t v parts.0 ∙ ap (Column u v) (equal_from_text_eq c d parts.1)
equal_from_same_object (Function s f) (Function u g) same = two_texts Function s u f g same
equal_from_same_object (Procedure s f) (Procedure u g) same = two_texts Procedure s u f g same
equal_from_same_object _ _ same = cc

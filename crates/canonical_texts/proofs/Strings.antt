-- A string stands for the text that it is written from.
use Rattle.std.proofs.Common.{◌≡◌, ◌≢◌, ◌≤◌, ℕ, Bool, true, false, eqb, List, [], ◌∷◌, ◌++◌, Some, length, refl, sym, subst, ap, ◌∙◌, append_assoc}
use Rattle.std.specs.List.{AllByRecursion}
use Rattle.acl_names.specs.declared.auth.AuthId.{AuthId}
use Rattle.grant_lex.specs.Value.{inside_value, value_of}
use Rattle.mandatory_roles.proofs.Bytes.{is_byte, not_byte, other_byte}
use Rattle.mandatory_roles.proofs.Written.{written_read}
use Rattle.mandatory_roles.specs.Roles.{roles_in}
use Rattle.mandatory_roles.specs.Text.{IsRole, roles_text}
use Rattle.canonical_texts.specs.Quotes.{string_byte, string_inside, string_text}

inside_end : inside_value 39 (39 ∷ []) ≡ []
unfolding inside_value
inside_end = refl

inside_quote : (rest : List ℕ) → inside_value 39 (39 ∷ 39 ∷ rest) ≡ 39 ∷ inside_value 39 rest
unfolding inside_value
inside_quote rest = refl

inside_slash : (rest : List ℕ) → inside_value 39 (92 ∷ 92 ∷ rest) ≡ 92 ∷ inside_value 39 rest
unfolding inside_value
inside_slash rest = refl

inside_plain : (b : ℕ) (rest : List ℕ) → b ≢ 39 → b ≢ 92 → inside_value 39 (b ∷ rest) ≡ b ∷ inside_value 39 rest
unfolding inside_value
inside_plain b [] quote slash = rw (other_byte b 39 quote, other_byte b 92 slash) refl
inside_plain b (c ∷ rest) quote slash = rw (other_byte b 39 quote, other_byte b 92 slash) refl

inside_step : (b : ℕ) (rest : List ℕ) (s t : Bool) → eqb b 39 ≡ s → eqb b 92 ≡ t → inside_value 39 (string_byte b ++ rest) ≡ b ∷ inside_value 39 rest
inside_step b rest true t e f = subst (λ k. inside_value 39 (string_byte k ++ rest) ≡ k ∷ inside_value 39 rest) (sym (is_byte b 39 e)) (inside_quote rest)
inside_step b rest false true e f = subst (λ k. inside_value 39 (string_byte k ++ rest) ≡ k ∷ inside_value 39 rest) (sym (is_byte b 92 f)) (inside_slash rest)
inside_step b rest false false e f =
    rw (e, f) (inside_plain b rest (not_byte b 39 e) (not_byte b 92 f))

inside_text : (text : List ℕ) → inside_value 39 (string_inside text ++ 39 ∷ []) ≡ text
inside_text [] = inside_end
inside_text (b ∷ bs) =
    ap (inside_value 39) (append_assoc (string_byte b) (string_inside bs) (39 ∷ []))
    ∙ inside_step b (string_inside bs ++ 39 ∷ []) (eqb b 39) (eqb b 92) refl refl
    ∙ ap (λ l. b ∷ l) (inside_text bs)

pub string_read : (text : List ℕ) → value_of (string_text text) ≡ text
string_read text = inside_text text

pub mandatory_read : (roles : List AuthId) → AllByRecursion IsRole roles → length roles ≤ 4096 → roles_in (value_of (string_text (roles_text roles))) ≡ Some roles
mandatory_read roles each few = ap roles_in (string_read (roles_text roles)) ∙ written_read roles each few

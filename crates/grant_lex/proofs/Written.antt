-- What is written between quotes, with what closes them doubled or escaped, is one token.
use Rattle.std.proofs.Common.{◌≡◌, ◌≢◌, ℕ, Bool, true, false, cond, eqb, List, [], ◌∷◌, ◌++◌, map, refl, sym, ap, ◌∙◌, arith}
use Rattle.std.specs.List.{flat_map, AllByRecursion}
use Rattle.std.proofs.lemmas.Bool.Decides.{nat_tests}
use Rattle.grant_lex.specs.Inside.{IsPiece, spelling}
use Rattle.grant_lex.specs.Token.{IsOfSort}
use Rattle.grant_lex.specs.declared.inside.Piece.{Piece}
use Rattle.grant_lex.specs.declared.inside.Piece.TheVariants.{Plain, Doubled, Escaped}
use Rattle.grant_lex.specs.declared.sorts.Kind.TheVariants.{Quoted, Backquoted}

-- in a name each backquote, of code 96, is doubled
abbrev pub name_byte : ℕ → List ℕ
name_byte b = cond (eqb b 96) (96 ∷ 96 ∷ []) (b ∷ [])

-- in a string each single quote, of code 39, is doubled, and each backslash, of code 92, has one before it
abbrev pub string_byte : ℕ → List ℕ
string_byte b = cond (eqb b 39) (39 ∷ 39 ∷ []) (cond (eqb b 92) (92 ∷ 92 ∷ []) (b ∷ []))

name_piece : ℕ → Piece
name_piece b = cond (eqb b 96) Doubled (Plain b)

string_piece : ℕ → Piece
string_piece b = cond (eqb b 39) Doubled (cond (eqb b 92) (Escaped 92) (Plain b))

byte_is_not : (b c : ℕ) → eqb b c ≡ false → b ≢ c
byte_is_not b c e = grind (arith, nat_tests)

name_spelled : (b : ℕ) → spelling 96 (name_piece b) ≡ name_byte b
unfolding name_piece
name_spelled b = elim (eqb b 96) as (λ t. spelling 96 (cond t Doubled (Plain b)) ≡ cond t (96 ∷ 96 ∷ []) (b ∷ [])) [ true ↦ refl | false ↦ refl ]

name_test : (b : ℕ) (t : Bool) → eqb b 96 ≡ t → IsPiece 96 (cond t Doubled (Plain b))
name_test b true e = tt
name_test b false e = (byte_is_not b 96 e, λ escapes. absurd (escapes refl))

name_allowed : (b : ℕ) → IsPiece 96 (name_piece b)
unfolding name_piece
name_allowed b = name_test b (eqb b 96) refl

string_spelled : (b : ℕ) → spelling 39 (string_piece b) ≡ string_byte b
unfolding string_piece
string_spelled b =
    elim (eqb b 39) as (λ t. spelling 39 (cond t Doubled (cond (eqb b 92) (Escaped 92) (Plain b))) ≡ cond t (39 ∷ 39 ∷ []) (cond (eqb b 92) (92 ∷ 92 ∷ []) (b ∷ []))) [
      | true ↦ refl
      | false ↦ elim (eqb b 92) as (λ t. spelling 39 (cond t (Escaped 92) (Plain b)) ≡ cond t (92 ∷ 92 ∷ []) (b ∷ [])) [ true ↦ refl | false ↦ refl ]
    ]

string_test : (b : ℕ) (s t : Bool) → eqb b 39 ≡ s → eqb b 92 ≡ t → IsPiece 39 (cond s Doubled (cond t (Escaped 92) (Plain b)))
string_test b true t e f = tt
string_test b false true e f = (λ same. absurd (byte_is_not 39 96 refl same), refl)
string_test b false false e f = (byte_is_not b 39 e, λ escapes. byte_is_not b 92 f)

string_allowed : (b : ℕ) → IsPiece 39 (string_piece b)
unfolding string_piece
string_allowed b = string_test b (eqb b 39) (eqb b 92) refl refl

spelled_all : (quote : ℕ) (piece : ℕ → Piece) (byte : ℕ → List ℕ) → ((b : ℕ) → spelling quote (piece b) ≡ byte b) → (text : List ℕ) → flat_map byte text ≡ flat_map (spelling quote) (map piece text)
spelled_all quote piece byte each [] = refl
spelled_all quote piece byte each (b ∷ bs) =
    ap (λ l. l ++ flat_map byte bs) (sym (each b)) ∙ ap (λ l. spelling quote (piece b) ++ l) (spelled_all quote piece byte each bs)

allowed_all : (quote : ℕ) (piece : ℕ → Piece) → ((b : ℕ) → IsPiece quote (piece b)) → (text : List ℕ) → AllByRecursion (IsPiece quote) (map piece text)
allowed_all quote piece each [] = tt
allowed_all quote piece each (b ∷ bs) = (each b, allowed_all quote piece each bs)

pub name_token : (text : List ℕ) → IsOfSort Backquoted (96 ∷ flat_map name_byte text ++ 96 ∷ []) []
name_token text = record {
  quote = 96;
  sort = refl;
  pieces = map name_piece text;
  opens = record { whole = ap (λ l. 96 ∷ l ++ 96 ∷ []) (spelled_all 96 name_piece name_byte name_spelled text); each = allowed_all 96 name_piece name_allowed text };
  ends = tt;
}

pub string_token : (text : List ℕ) → IsOfSort Quoted (39 ∷ flat_map string_byte text ++ 39 ∷ []) []
string_token text = record {
  quote = 39;
  sort = refl;
  pieces = map string_piece text;
  opens = record { whole = ap (λ l. 39 ∷ l ++ 39 ∷ []) (spelled_all 39 string_piece string_byte string_spelled text); each = allowed_all 39 string_piece string_allowed text };
  ends = tt;
}

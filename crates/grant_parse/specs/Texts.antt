-- What a text spells by a rule on its tokens, and where it is refused.
use Rattle.std.specs.Prelude.{◌≡◌, ◌⊎◌, ◌<◌, ◌≤◌, ◌-◌, ℕ, List, [], ◌∷◌, length, drop, Option, Some, None, Result, Ok, Err}
use Rattle.acl_grammar.specs.Spelling.{Refused}
use Rattle.grant_lex.specs.Token.{HasFault, IsCut}
use Rattle.grant_lex.specs.declared.refusal.LexRefusal.TheVariants.{BadByte, Unclosed}
use Rattle.grant_lex.specs.declared.sorts.Token.{Token}
use Rattle.grant_refusal.specs.declared.ParseRefusal.{ParseRefusal}
use Rattle.grant_refusal.specs.declared.ParseRefusal.TheVariants.{Limit, Syntax, WrongLevel, NoMemory}
use Rattle.grant_words.specs.Lexemes.{lexemes_of}
use Rattle.grant_words.specs.declared.lexeme.Lexeme.{Lexeme}
use Rattle.priv_sets.specs.declared.privilege.Privilege.{Privilege}

-- the text is cut into tokens that spell the value
abbrev pub IsSpelled : {M : Type 0} → (List Lexeme → M → Type 0) → List ℕ → M → Type 0
IsSpelled P text m = (tokens : List Token) × IsCut text tokens × P (lexemes_of text tokens) m

-- the first of the tokens, or else the end
abbrev pub place_at : ℕ → List Token → ℕ
place_at end [] = end
place_at end (token ∷ _) = token.from

-- the place of the last so many tokens
abbrev pub place_of : List ℕ → List Token → ℕ → ℕ
place_of text tokens left = place_at (length text) (drop (length tokens - left) tokens)

-- a byte of no token, or a quote that is not closed
abbrev pub IsBadText : List ℕ → ℕ → Type 0
IsBadText text offset = HasFault text (BadByte offset) ⊎ HasFault text (Unclosed offset)

-- the text has no tokens, and this is where; or memory was wanting
abbrev pub IsTokenRefusal : List ℕ → ParseRefusal → Type 0
IsTokenRefusal text NoMemory = Unit {0}
IsTokenRefusal text (Syntax offset) = IsBadText text offset
IsTokenRefusal text Limit = ⊥
IsTokenRefusal text (WrongLevel _) = ⊥

-- the token with which no spelling goes on, or the end of the text
abbrev pub IsStuckAt : {M : Type 0} → (List Lexeme → M → Type 0) → List ℕ → ℕ → Type 0
IsStuckAt P text offset =
    (tokens : List Token) × IsCut text tokens × (bad : List Lexeme) × Refused P (lexemes_of text tokens) bad
    × (offset ≡ place_of text tokens (length bad))

-- the text spells nothing, and this is where
abbrev pub IsSyntax : {M : Type 0} → (List Lexeme → M → Type 0) → List ℕ → ℕ → Type 0
IsSyntax P text offset = IsBadText text offset ⊎ IsStuckAt P text offset

-- the text spells nothing, and this is where; or memory was wanting
abbrev pub IsSyntaxRefusal : {M : Type 0} → (List Lexeme → M → Type 0) → List ℕ → ParseRefusal → Type 0
IsSyntaxRefusal P text NoMemory = Unit {0}
IsSyntaxRefusal P text (Syntax offset) = IsSyntax P text offset
IsSyntaxRefusal P text Limit = ⊥
IsSyntaxRefusal P text (WrongLevel _) = ⊥

-- the text is not too long, spells some value with no fault of levels, and the value means this
abbrev pub IsRead : {M S : Type 0} → (List Lexeme → M → Type 0) → (M → Option Privilege) → (M → S → Type 0) → ℕ → List ℕ → S → Type 0
IsRead {M = M} P fault Means most text s = (length text ≤ most) × (m : M) × IsSpelled P text m × (fault m ≡ None) × Means m s

-- want of memory, or else exactly this
abbrev pub IsParseRefusal : {M : Type 0} → (List Lexeme → M → Type 0) → (M → Option Privilege) → ℕ → List ℕ → ParseRefusal → Type 0
IsParseRefusal P fault most text NoMemory = Unit {0}
IsParseRefusal P fault most text Limit = most < length text
IsParseRefusal P fault most text (Syntax offset) = (length text ≤ most) × IsSyntax P text offset
IsParseRefusal {M = M} P fault most text (WrongLevel privilege) = (length text ≤ most) × (m : M) × IsSpelled P text m × (fault m ≡ Some privilege)

-- this answer, unless memory was wanting
abbrev pub ReadsAs : {S : Type 0} → Result S ParseRefusal → S → Type 0
ReadsAs (Ok made) s = made ≡ s
ReadsAs (Err refusal) s = refusal ≡ NoMemory

-- this refusal, unless memory was wanting
abbrev pub RefusesAs : {S : Type 0} → Result S ParseRefusal → ParseRefusal → Type 0
RefusesAs (Ok made) wanted = ⊥
RefusesAs (Err refusal) wanted = (refusal ≡ wanted) ⊎ (refusal ≡ NoMemory)

-- Texts as tokens, and where a text has none.
use Rattle.std.specs.Prelude.{◌≡◌, ◌⊎◌, ◌++◌, ◌+◌, ◌<◌, ◌≤◌, ℕ, List, [], ◌∷◌, length, drop, slice_range, Option, Some, None, Result, Ok, Err}
use Rattle.std.specs.List.{flat_map, AllByRecursion}
use Rattle.std.specs.Str.{IsCharBoundary}
use Rattle.grant_lex.specs.Class.{class_of}
use Rattle.grant_lex.specs.Next.{BeginsWithout, IsBlank, IsOf}
use Rattle.grant_lex.specs.Inside.{Opens, HasBadPair, StaysOpen, spelling}
use Rattle.grant_lex.specs.declared.class.Class.{Class}
use Rattle.grant_lex.specs.declared.class.Class.TheVariants.{Mark, Quote, Backquote, Other}
use Rattle.grant_lex.specs.declared.class.Class.TheVariants as classes
use Rattle.grant_lex.specs.declared.inside.Piece.{Piece}
use Rattle.grant_lex.specs.declared.refusal.LexRefusal.{LexRefusal}
use Rattle.grant_lex.specs.declared.refusal.LexRefusal.TheVariants.{BadByte, Unclosed, NoMemory}
use Rattle.grant_lex.specs.declared.sorts.Kind.{Kind}
use Rattle.grant_lex.specs.declared.sorts.Kind.TheVariants.{Word, Quoted, Backquoted}
use Rattle.grant_lex.specs.declared.sorts.Kind.TheVariants as kinds
use Rattle.grant_lex.specs.declared.sorts.Token.{Token}

-- one or more bytes of words, and the next byte is none
pub record IsWord (text rest : List ℕ) : Type 0 where
  pub some : 0 < length text
  pub each : AllByRecursion (IsOf classes.Word) text
  pub ends : BeginsWithout (IsOf classes.Word) rest

-- a quote of this class, pieces, and the quote that closes it
pub record IsQuoted (class : Class) (text rest : List ℕ) : Type 0 where
  pub quote : ℕ
  pub sort : class_of quote ≡ class
  pub pieces : List Piece
  pub opens : Opens quote pieces text (quote ∷ [])
  pub ends : BeginsWithout (λ b. b ≡ quote) rest

-- the text is a token of this sort, and ends where this rest follows it
abbrev pub IsOfSort : Kind → List ℕ → List ℕ → Type 0
IsOfSort Word text rest = IsWord text rest
IsOfSort Quoted text rest = IsQuoted Quote text rest
IsOfSort Backquoted text rest = IsQuoted Backquote text rest
IsOfSort (kinds.Mark b) text rest = (class_of b ≡ Mark) × (text ≡ b ∷ [])

-- the token stands at the front of the bytes, the first of which is at this offset, and the rest follows it
pub record StandsAt (from : ℕ) (token : Token) (bytes rest : List ℕ) : Type 0 where
  pub text : List ℕ
  pub whole : bytes ≡ text ++ rest
  pub begins : token.from ≡ from
  pub ends : token.to ≡ from + length text
  pub sort : IsOfSort token.kind text rest

-- a byte that begins no token
pub record IsBadByte (from : ℕ) (bytes : List ℕ) (offset : ℕ) : Type 0 where
  pub byte : ℕ
  pub rest : List ℕ
  pub whole : bytes ≡ byte ∷ rest
  pub bad : class_of byte ≡ Other
  pub place : offset ≡ from

-- the backslash of a bad pair, which is met before the string's end
pub record IsBadPair (from : ℕ) (bytes : List ℕ) (offset : ℕ) : Type 0 where
  pub quote : ℕ
  pub sort : class_of quote ≡ Quote
  pub pieces : List Piece
  pub rest : List ℕ
  pub opens : Opens quote pieces bytes rest
  pub bad : HasBadPair quote rest
  pub place : offset ≡ from + 1 + length (flat_map (spelling quote) pieces)

-- a quote that the text does not close
pub record IsUnclosed (from : ℕ) (bytes : List ℕ) (offset : ℕ) : Type 0 where
  pub quote : ℕ
  pub sort : (class_of quote ≡ Quote) ⊎ (class_of quote ≡ Backquote)
  pub pieces : List Piece
  pub rest : List ℕ
  pub opens : Opens quote pieces bytes rest
  pub open_end : StaysOpen quote rest
  pub place : offset ≡ from

-- in place of a token the bytes, the first of which is at this offset, have this fault
abbrev pub Fails : ℕ → List ℕ → LexRefusal → Type 0
Fails from bytes (BadByte offset) = IsBadByte from bytes offset ⊎ IsBadPair from bytes offset
Fails from bytes (Unclosed offset) = IsUnclosed from bytes offset
Fails from bytes NoMemory = ⊥

-- blanks, and behind them what has P
pub record PastBlanks (P : ℕ → List ℕ → Type 0) (at : ℕ) (bytes : List ℕ) : Type 0 where
  pub blanks : List ℕ
  pub rest : List ℕ
  pub whole : bytes ≡ blanks ++ rest
  pub each : AllByRecursion IsBlank blanks
  pub next : P (at + length blanks) rest

-- blanks, then the token, then the rest
abbrev pub Continues : ℕ → List ℕ → Token → List ℕ → Type 0
Continues at bytes token rest = PastBlanks (λ from text. StandsAt from token text rest) at bytes

-- the bytes, the first of which is at this offset, are these tokens with blanks before, between and behind them;
-- or they are up to a fault, which stands where the next token would
abbrev pub Reads : ℕ → List ℕ → List Token → Option LexRefusal → Type 0
Reads at bytes [] None = AllByRecursion IsBlank bytes
Reads at bytes [] (Some fault) = PastBlanks (λ from rest. Fails from rest fault) at bytes
Reads at bytes (t ∷ ts) end =
    (rest : List ℕ) × Continues at bytes t rest × Reads t.to rest ts end

-- the text is cut into these tokens
abbrev pub IsCut : List ℕ → List Token → Type 0
IsCut text tokens = Reads 0 text tokens None

-- the text has no tokens: behind some tokens it has this fault
abbrev pub HasFault : List ℕ → LexRefusal → Type 0
HasFault text fault = (before : List Token) × Reads 0 text before (Some fault)

-- the next token, or none where nothing but blanks is left
abbrev pub IsNextToken : ℕ → List ℕ → Option Token → Type 0
IsNextToken at bytes None = Reads at bytes [] None
IsNextToken at bytes (Some token) = (rest : List ℕ) × Continues at bytes token rest

-- the first n bytes are a token between these quotes
pub record IsQuotedFront (quote : ℕ) (bytes : List ℕ) (n : ℕ) : Type 0 where
  pub text : List ℕ
  pub rest : List ℕ
  pub whole : bytes ≡ text ++ rest
  pub size : length text ≡ n
  pub sort : IsQuoted (class_of quote) text rest

-- the refusal is the fault of the text, unless memory was wanting
abbrev pub IsFaultOf : List ℕ → LexRefusal → Type 0
IsFaultOf text NoMemory = Unit {0}
IsFaultOf text (BadByte offset) = HasFault text (BadByte offset)
IsFaultOf text (Unclosed offset) = HasFault text (Unclosed offset)

-- these tokens, unless memory was wanting
abbrev pub AnswersTokens : Result (List Token) LexRefusal → List Token → Type 0
AnswersTokens (Ok tokens) others = tokens ≡ others
AnswersTokens (Err refusal) others = refusal ≡ NoMemory

-- this fault, unless memory was wanting
abbrev pub AnswersFault : Result (List Token) LexRefusal → LexRefusal → Type 0
AnswersFault (Ok tokens) fault = ⊥
AnswersFault (Err refusal) fault = (refusal ≡ fault) ⊎ (refusal ≡ NoMemory)

-- the token is this slice of the text, which may be cut at both ends, and ends where what follows it begins
pub record IsSpan (text : List ℕ) (token : Token) : Type 0 where
  pub onward : token.from < token.to
  pub within : token.to ≤ length text
  pub first_cut : IsCharBoundary text token.from
  pub second_cut : IsCharBoundary text token.to
  pub sort : IsOfSort token.kind (slice_range text token.from token.to) (drop token.to text)

-- from this offset on the text is these spans in order, with blanks before, between and behind them
abbrev pub AreSpans : List ℕ → ℕ → List Token → Type 0
AreSpans text at [] = AllByRecursion IsBlank (drop at text)
AreSpans text at (t ∷ ts) =
    (at ≤ t.from) × AllByRecursion IsBlank (slice_range text at t.from) × IsSpan text t × AreSpans text t.to ts

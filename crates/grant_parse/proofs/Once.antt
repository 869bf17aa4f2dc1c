-- A text has one reading, or one refusal.
use Rattle.std.proofs.Common.{◌≡◌, ◌≢◌, ◌⊎◌, ℕ, List, length, Option, Some, None, Result, Ok, Err, inl, inr, refl, sym, ◌∙◌, ap, subst, arith}
use Rattle.std.specs.Prelude.{IfErr, IfOk}
use Rattle.acl_grammar.specs.Spelling.{Refused}
use Rattle.acl_grammar.proofs.Whole.{not_spelled, refused_once}
use Rattle.grant_lex.proofs.Answered.{cut_or_fault, cuts_same, faults_same}
use Rattle.grant_lex.specs.Token.{IsCut}
use Rattle.grant_lex.specs.declared.refusal.LexRefusal.TheVariants.{BadByte, Unclosed}
use Rattle.grant_lex.specs.declared.sorts.Token.{Token}
use Rattle.grant_refusal.specs.declared.ParseRefusal.{ParseRefusal}
use Rattle.grant_refusal.specs.declared.ParseRefusal.TheVariants.{Limit, Syntax, WrongLevel, NoMemory}
use Rattle.grant_parse.specs.Texts.{IsBadText, IsParseRefusal, IsRead, IsSpelled, IsSyntax, ReadsAs, RefusesAs, place_of}
use Rattle.grant_words.specs.Lexemes.{lexemes_of}
use Rattle.grant_words.specs.declared.lexeme.Lexeme.{Lexeme}
use Rattle.priv_sets.specs.declared.privilege.Privilege.{Privilege}

-- a rule by which tokens spell one value at most
abbrev pub IsUnique : {M : Type 0} → (List Lexeme → M → Type 0) → Type 0
IsUnique {M = M} P = (ts : List Lexeme) (m other : M) → P ts m → P ts other → m ≡ other

pub spelled_once : {M : Type 0} (P : List Lexeme → M → Type 0) → IsUnique P → (text : List ℕ) (m other : M) → IsSpelled P text m → IsSpelled P text other
    → m ≡ other
spelled_once {M = M} P unique text m other (tokens, cut, k) (others, cut', l) =
    let same : others ≡ tokens = cuts_same text others tokens cut' cut in
    let Q : List Token → Type 0 = λ ts. P (lexemes_of text ts) other in
    unique (lexemes_of text tokens) m other k (subst Q same l)

bad_unspelled : {M : Type 0} (P : List Lexeme → M → Type 0) (text : List ℕ) (offset : ℕ) (m : M) → IsBadText text offset → IsSpelled P text m → ⊥
bad_unspelled P text offset m (inl f) (tokens, cut, k) = cut_or_fault text tokens (BadByte offset) cut f
bad_unspelled P text offset m (inr f) (tokens, cut, k) = cut_or_fault text tokens (Unclosed offset) cut f

pub unspelled : {M : Type 0} (P : List Lexeme → M → Type 0) (text : List ℕ) (offset : ℕ) (m : M) → IsSyntax P text offset → IsSpelled P text m → ⊥
unspelled P text offset m (inl bad) k = bad_unspelled P text offset m bad k
unspelled {M = M} P text offset m (inr (others, cut', bad, refused, place)) (tokens, cut, k) =
    let same : tokens ≡ others = cuts_same text tokens others cut cut' in
    let Q : List Token → Type 0 = λ ts. P (lexemes_of text ts) m in
    not_spelled P (lexemes_of text others) bad refused m (subst Q same k)

bad_once : (text : List ℕ) (offset other : ℕ) → IsBadText text offset → IsBadText text other → offset ≡ other
bad_once text offset other (inl f) (inl g) = let same = faults_same text (BadByte offset) (BadByte other) f g in cc
bad_once text offset other (inl f) (inr g) = let same = faults_same text (BadByte offset) (Unclosed other) f g in absurd (cc)
bad_once text offset other (inr f) (inl g) = let same = faults_same text (Unclosed offset) (BadByte other) f g in absurd (cc)
bad_once text offset other (inr f) (inr g) = let same = faults_same text (Unclosed offset) (Unclosed other) f g in cc

bad_uncut : (text : List ℕ) (offset : ℕ) (tokens : List Token) → IsBadText text offset → IsCut text tokens → ⊥
bad_uncut text offset tokens (inl f) cut = cut_or_fault text tokens (BadByte offset) cut f
bad_uncut text offset tokens (inr f) cut = cut_or_fault text tokens (Unclosed offset) cut f

pub syntax_once : {M : Type 0} (P : List Lexeme → M → Type 0) (text : List ℕ) (offset other : ℕ) → IsSyntax P text offset → IsSyntax P text other
    → offset ≡ other
syntax_once P text offset other (inl f) (inl g) = bad_once text offset other f g
syntax_once P text offset other (inl f) (inr (tokens, cut, bad, refused, place)) = absurd (bad_uncut text offset tokens f cut)
syntax_once P text offset other (inr (tokens, cut, bad, refused, place)) (inl g) = absurd (bad_uncut text other tokens g cut)
syntax_once P text offset other (inr (tokens, cut, bad, refused, place)) (inr (others, cut', bad', refused', place')) =
    let same : others ≡ tokens = cuts_same text others tokens cut' cut in
    let Q : List Token → Type 0 = λ ts. Refused P (lexemes_of text ts) bad' in
    let left : bad ≡ bad' = refused_once P (lexemes_of text tokens) bad bad' refused (subst Q same refused') in
    place ∙ ap (λ us. place_of text tokens (length us)) left ∙ ap (λ ts. place_of text ts (length bad')) (sym same) ∙ sym place'

some_none : {A : Type 0} (x : A) → None ≡ Some x → ⊥
some_none x e = cc

-- what is read is not refused, and is read as one thing
read_once : {M S : Type 0} (P : List Lexeme → M → Type 0) (fault : M → Option Privilege) (Means : M → S → Type 0) → IsUnique P
    → ((m : M) (s other : S) → Means m s → Means m other → s ≡ other) → (most : ℕ) (text : List ℕ) (s other : S)
    → IsRead P fault Means most text s → IsRead P fault Means most text other → s ≡ other
read_once {M = M} {S = S} P fault Means unique meant most text s other (h, m, k, none, means) (h', m', k', none', means') =
    let same : m' ≡ m = spelled_once P unique text m' m k' k in
    let Q : M → Type 0 = λ x. Means x other in
    meant m s other means (subst Q same means')

read_not_refused : {M S : Type 0} (P : List Lexeme → M → Type 0) (fault : M → Option Privilege) (Means : M → S → Type 0) → IsUnique P
    → (most : ℕ) (text : List ℕ) (s : S) (refusal : ParseRefusal) → IsRead P fault Means most text s → IsParseRefusal P fault most text refusal
    → refusal ≡ NoMemory
read_not_refused P fault Means unique most text s NoMemory (h, m, k, none, means) r = refl
read_not_refused P fault Means unique most text s Limit (h, m, k, none, means) r = absurd (omega arith)
read_not_refused P fault Means unique most text s (Syntax offset) (h, m, k, none, means) (h', r) = absurd (unspelled P text offset m r k)
read_not_refused P fault Means unique most text s (WrongLevel p) (h, m, k, none, means) (h', m', k', some) =
    absurd (some_none p (sym none ∙ ap fault (spelled_once P unique text m m' k k') ∙ some))

refused_alike : {M : Type 0} (P : List Lexeme → M → Type 0) (fault : M → Option Privilege) → IsUnique P → (most : ℕ) (text : List ℕ)
    → (refusal wanted : ParseRefusal) → IsParseRefusal P fault most text refusal → (wanted ≢ NoMemory) → IsParseRefusal P fault most text wanted
    → (refusal ≡ wanted) ⊎ (refusal ≡ NoMemory)
refused_alike P fault unique most text NoMemory wanted r some w = inr refl
refused_alike P fault unique most text refusal NoMemory r some w = absurd (some refl)
refused_alike P fault unique most text Limit Limit r some w = inl refl
refused_alike P fault unique most text Limit (Syntax offset) r some (h, w) = absurd (omega arith)
refused_alike P fault unique most text Limit (WrongLevel p) r some (h, m, k, w) = absurd (omega arith)
refused_alike P fault unique most text (Syntax offset) Limit (h, r) some w = absurd (omega arith)
refused_alike P fault unique most text (WrongLevel p) Limit (h, m, k, r) some w = absurd (omega arith)
refused_alike P fault unique most text (Syntax offset) (Syntax other) (h, r) some (h', w) = inl (ap Syntax (syntax_once P text offset other r w))
refused_alike P fault unique most text (Syntax offset) (WrongLevel p) (h, r) some (h', m, k, w) = absurd (unspelled P text offset m r k)
refused_alike P fault unique most text (WrongLevel p) (Syntax offset) (h, m, k, r) some (h', w) = absurd (unspelled P text offset m w k)
refused_alike P fault unique most text (WrongLevel p) (WrongLevel q) (h, m, k, r) some (h', m', k', w) =
    let same : Some p ≡ Some q = sym r ∙ ap fault (spelled_once P unique text m m' k k') ∙ w in
    inl (cc)

-- an answer that is right is the only one
pub answered_only : {M S : Type 0} (P : List Lexeme → M → Type 0) (fault : M → Option Privilege) (Means : M → S → Type 0) → IsUnique P
    → ((m : M) (s other : S) → Means m s → Means m other → s ≡ other) → (most : ℕ) (text : List ℕ) (result : Result S ParseRefusal)
    → IfOk result (IsRead P fault Means most text) → IfErr result (IsParseRefusal P fault most text) → (s : S) → IsRead P fault Means most text s → ReadsAs result s
answered_only P fault Means unique meant most text (Ok made) h k s read = read_once P fault Means unique meant most text made s h read
answered_only P fault Means unique meant most text (Err refusal) h k s read = read_not_refused P fault Means unique most text s refusal read k

pub answered_exactly : {M S : Type 0} (P : List Lexeme → M → Type 0) (fault : M → Option Privilege) (Means : M → S → Type 0) → IsUnique P
    → (most : ℕ) (text : List ℕ) (result : Result S ParseRefusal) → IfOk result (IsRead P fault Means most text)
    → IfErr result (IsParseRefusal P fault most text) → (wanted : ParseRefusal) → (wanted ≢ NoMemory) → IsParseRefusal P fault most text wanted
    → RefusesAs result wanted
answered_exactly P fault Means unique most text (Ok made) h k wanted some refused =
    some (read_not_refused P fault Means unique most text made wanted h refused)
answered_exactly P fault Means unique most text (Err refusal) h k wanted some refused =
    refused_alike P fault unique most text refusal wanted k some refused

-- The option AT of a text is one, and is found by reading a CONNECT.
use Rattle.std.proofs.Common.{◌≡◌, ◌-◌, ◌<◌, ℕ, zero, suc, slice_index_or, Bool, IsTrue, true, false, List, [], ◌∷◌, ◌++◌, Option, Some, None, Ok, Err, cond, length, drop, map, refl, sym, ap, ◌∙◌, subst, arith, length-append}
use Rattle.std.specs.Prelude.{All}
use Rattle.std.specs.Str.{IsCharBoundary}
use Rattle.std.proofs.lemmas.List.Elements.{All-head, All-tail}
use Rattle.acl_grammar.proofs.Exact.{took_of}
use Rattle.acl_grammar.proofs.Theorem.{exact}
use Rattle.acl_grammar.specs.Reader.{Reading, goes_on, read}
use Rattle.acl_grammar.specs.Spelling.{spells}
use Rattle.grant_lex.specs.Token.{PastBlanks, Reads}
use Rattle.grant_lex.specs.declared.refusal.LexRefusal.{LexRefusal}
use Rattle.grant_lex.specs.declared.sorts.Token.{Token}
use Rattle.grant_words.specs.Classes.{is}
use Rattle.grant_words.specs.Lexemes.{lexeme_of, lexemes_of}
use Rattle.grant_words.specs.Syntax.{grammar_of}
use Rattle.grant_words.specs.declared.lexeme.Lexeme.{Lexeme}
use Rattle.script_commands.specs.Commands.{connect}
use Rattle.script_commands.specs.Moments.{HasMoment, IsMomentAt, at_word, left_behind, option_of}
use Rattle.script_commands.specs.Sanity.{connect_sane}
use Rattle.script_commands.specs.declared.command.Connect.{Connect}
use Rattle.script_commands.proofs.OneOption.{is_found, same_length, split_same}

-- tokens that are split where what they are mapped to is
pub record Split {X Y : Type 0} (f : X → Y) (ts : List X) (us : List Y) (a : Y) (rest : List Y) : Type 0 where
  pub before : List X
  pub here : X
  pub more : List X
  pub whole : ts ≡ before ++ here ∷ more
  pub first : map f before ≡ us
  pub second : f here ≡ a
  pub third : length more ≡ length rest

map_split : {X Y : Type 0} (f : X → Y) (ts : List X) (us : List Y) (a : Y) (rest : List Y) → map f ts ≡ us ++ a ∷ rest → Split f ts us a rest
map_split f [] [] a rest e = absurd (cc)
map_split f [] (u ∷ us) a rest e = absurd (cc)
map_split f (t ∷ ts) [] a rest e =
    let tail : map f ts ≡ rest = cc in
    record { before = []; here = t; more = ts; whole = refl; first = refl; second = cc; third = sym (same_length f ts) ∙ ap length tail }
map_split f (t ∷ ts) (u ∷ us) a rest e =
    let k = map_split f ts us a rest (cc) in
    let head : f t ≡ u = cc in
    record {
      before = t ∷ k.before;
      here = k.here;
      more = k.more;
      whole = ap (λ l. t ∷ l) k.whole;
      first = λ i. head i ∷ k.first i;
      second = k.second;
      third = k.third;
    }

-- what is read as a CONNECT and a word AT
pub record Read (ts : List Lexeme) (made : Connect) (left : ℕ) : Type 0 where
  pub front : List Lexeme
  pub word : Lexeme
  pub rest : List Lexeme
  pub whole : ts ≡ front ++ word ∷ rest
  pub spelled : spells (grammar_of connect) front made
  pub is_at : IsTrue (is at_word word)
  pub size : length rest ≡ left

read_of : (ts : List Lexeme) (made : Connect) (left : ℕ) (r : Reading Lexeme Connect) → read (grammar_of connect) ts ≡ r
    → option_of r ≡ Some (made, left) → Read ts made left
read_of ts made left (Err bad) e h = absurd (cc)
read_of ts made left (Ok (v, [])) e h = absurd (cc)
read_of ts made left (Ok (v, w ∷ rest)) e h = step (is at_word w) refl h
  where
    step : (b : Bool) → is at_word w ≡ b → left_behind v (cond b (Ok rest) (Err (w ∷ rest))) ≡ Some (made, left) → Read ts made left
    step true at k =
        let took = took_of (spells (grammar_of connect)) (goes_on (grammar_of connect)) (read (grammar_of connect)) (exact (grammar_of connect) connect_sane) ts v (w ∷ rest) e in
        let pair : (v, length rest) ≡ (made, left) = cc in
        record {
          front = took.front;
          word = w;
          rest = rest;
          whole = took.whole;
          spelled = subst (spells (grammar_of connect) took.front) (ap (λ (p : Connect × ℕ). p.0) pair) took.spelled;
          is_at = at;
          size = ap (λ (p : Connect × ℕ). p.1) pair;
        }
    step false at k = absurd (cc)

pub record Found (text : List ℕ) (ts : List Token) (made : Connect) (left : ℕ) : Type 0 where
  pub tokens : List Token
  pub option : Token
  pub more : List Token
  pub whole : ts ≡ tokens ++ option ∷ more
  pub spelled : spells (grammar_of connect) (lexemes_of text tokens) made
  pub is_at : IsTrue (is at_word (lexeme_of text option))
  pub size : length more ≡ left

pub found : (text : List ℕ) (ts : List Token) (made : Connect) (left : ℕ) → option_of (read (grammar_of connect) (lexemes_of text ts)) ≡ Some (made, left)
    → Found text ts made left
found text ts made left h =
    let k = read_of (lexemes_of text ts) made left (read (grammar_of connect) (lexemes_of text ts)) refl h in
    let split = map_split (lexeme_of text) ts k.front k.word k.rest k.whole in
    record {
      tokens = split.before;
      option = split.here;
      more = split.more;
      whole = split.whole;
      spelled = subst (λ (l : List Lexeme). spells (grammar_of connect) l made) (sym split.first) k.spelled;
      is_at = subst (λ (t : Lexeme). IsTrue (is at_word t)) (sym split.second) k.is_at;
      size = split.third ∙ k.size;
    }

pub left_within : (text : List ℕ) (ts : List Token) (made : Connect) (left : ℕ) → Found text ts made left → left < length ts
left_within text ts made left k = omega (arith, ap length k.whole, length-append k.tokens (k.option ∷ k.more), k.size)

-- the element at a place
pub split_place : {X : Type 0} (xs : List X) (n : ℕ) (d : X) → n < length xs
    → (before more : List X) × (xs ≡ before ++ slice_index_or xs n d ∷ more) × (length more ≡ length xs - 1 - n)
split_place [] n d h = absurd (omega (arith, h))
split_place (x ∷ xs) zero d h = ([], xs, refl, omega arith)
split_place (x ∷ xs) (suc n) d h =
    let k = split_place xs n d (omega (arith, h)) in
    (x ∷ k.0, k.1, ap (λ l. x ∷ l) k.2, k.3 ∙ omega arith)

pub all_here : {X : Type 0} (P : X → Type 0) (xs : List X) (x : X) (ys : List X) → All P (xs ++ x ∷ ys) → P x
all_here P [] x ys h = All-head P x ys h
all_here P (a ∷ xs) x ys h = all_here P xs x ys (All-tail P a (xs ++ x ∷ ys) h)

-- the token that as many others follow is the word
pub moment_of : (text : List ℕ) (ts : List Token) (made : Connect) (left : ℕ) (token : Token) (place : ℕ) → (end : Option LexRefusal) × Reads 0 text ts end
    → Found text ts made left → (before more : List Token) × (ts ≡ before ++ token ∷ more) × (length more ≡ left)
    → PastBlanks (IsMomentAt place) token.to (drop token.to text) → HasMoment text made place
moment_of text ts made left token place (end, reads) k (before, more, whole, size) past =
    let same : token ≡ k.option = split_same before k.tokens token k.option more k.more (sym whole ∙ k.whole) (size ∙ sym k.size) in
    record {
      tokens = k.tokens;
      option = k.option;
      more = k.more;
      end = end;
      reads = subst (λ (l : List Token). Reads 0 text l end) k.whole reads;
      spelled = k.spelled;
      is_at = k.is_at;
      behind = subst (λ (t : Token). PastBlanks (IsMomentAt place) t.to (drop t.to text)) same past;
    }

pub end_of : (text : List ℕ) (ts : List Token) (left : ℕ) (token : Token) → All (λ (t : Token). IsCharBoundary text t.to) ts
    → (before more : List Token) × (ts ≡ before ++ token ∷ more) × (length more ≡ left) → IsCharBoundary text token.to
end_of text ts left token all (before, more, whole, size) =
    all_here (λ (t : Token). IsCharBoundary text t.to) before token more (subst (All (λ (t : Token). IsCharBoundary text t.to)) whole all)

some_none : {A : Type 0} (x : A) → None ≡ Some x → ⊥
some_none x e = cc

pub none_found : (text : List ℕ) (ts : List Token) (end : Option LexRefusal) → Reads 0 text ts end
    → option_of (read (grammar_of connect) (lexemes_of text ts)) ≡ None → (made : Connect) (place : ℕ) → HasMoment text made place → ⊥
none_found text ts end reads none made place h = some_none (made, length h.more) (sym none ∙ is_found text ts end reads made place h)

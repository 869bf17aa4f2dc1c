-- There is one reading of a text.
use Rattle.std.proofs.Common.{◌≡◌, ◌≢◌, ◌⊎◌, ℕ, ◌+◌, true, false, List, [], ◌∷◌, ◌++◌, Option, Some, None, length, refl, sym, subst, ap, ◌∙◌, arith, append_assoc, inl, inr, ⊎_elim}
use Rattle.std.specs.List.{flat_map, AllByRecursion}
use Rattle.std.proofs.lemmas.List.{append-nil, append_cancel_right}
use Rattle.grant_lex.specs.Class.{class_of}
use Rattle.grant_lex.specs.Next.{BeginsWithout, IsOf}
use Rattle.grant_lex.specs.Inside.{Closes, HasBadPair, IsPiece, Opens, StaysOpen, is_escaped, spelling}
use Rattle.grant_lex.specs.Token.{Fails, IsBadByte, IsBadPair, IsOfSort, IsQuoted, IsUnclosed, IsWord, PastBlanks, Reads, StandsAt}
use Rattle.grant_lex.specs.declared.class.Class.{Class}
use Rattle.grant_lex.specs.declared.class.Class.TheVariants.{Blank, Quote, Backquote, Other}
use Rattle.grant_lex.specs.declared.class.Class.TheVariants as classes
use Rattle.grant_lex.specs.declared.inside.Piece.{Piece}
use Rattle.grant_lex.specs.declared.inside.Piece.TheVariants.{Plain, Doubled, Escaped}
use Rattle.grant_lex.specs.declared.refusal.LexRefusal.{LexRefusal}
use Rattle.grant_lex.specs.declared.refusal.LexRefusal.TheVariants.{BadByte, Unclosed, NoMemory}
use Rattle.grant_lex.specs.declared.sorts.Kind.{Kind}
use Rattle.grant_lex.specs.declared.sorts.Kind.TheVariants.{Word, Quoted, Backquoted, Mark}
use Rattle.grant_lex.specs.declared.sorts.Token.{Token}

-- what does not begin so is not a front of such elements with one of them first
begins_absurd : (P : ℕ → Type 0) (x : List ℕ) (b : ℕ) (bs : List ℕ) → BeginsWithout P x → x ≡ b ∷ bs → P b → ⊥
begins_absurd P [] b bs without e here = absurd (cc)
begins_absurd P (a ∷ more) b bs without e here = let same : b ≡ a = cc in without (subst P same here)

-- the longest front of such elements is one
pub longest_same : (P : ℕ → Type 0) (fs gs x y : List ℕ) → fs ++ x ≡ gs ++ y → AllByRecursion P fs → AllByRecursion P gs → BeginsWithout P x → BeginsWithout P y → (fs ≡ gs) × (x ≡ y)
longest_same P [] [] x y e a b c d = (refl, e)
longest_same P [] (g ∷ gs) x y e a b c d = absurd (begins_absurd P x g (gs ++ y) c e b.0)
longest_same P (f ∷ fs) [] x y e a b c d = absurd (begins_absurd P y f (fs ++ x) d (sym e) a.0)
longest_same P (f ∷ fs) (g ∷ gs) x y e a b c d =
    let rest : fs ++ x ≡ gs ++ y = cc in
    let first : f ≡ g = cc in
    let same = longest_same P fs gs x y rest a.1 b.1 c d in
    ((λ i. first i ∷ same.0 i), same.1)

-- no piece begins another
piece_same : (q : ℕ) (p r : Piece) (x y : List ℕ) → q ≢ 92 → IsPiece q p → IsPiece q r → spelling q p ++ x ≡ spelling q r ++ y → (p ≡ r) × (x ≡ y)
piece_same q (Plain b) (Plain c) x y quote f g e = let one : b ≡ c = cc in let two : x ≡ y = cc in (ap Plain one, two)
piece_same q (Plain b) Doubled x y quote f g e = let same : b ≡ q = cc in absurd (f.0 same)
piece_same q (Plain b) (Escaped c) x y quote f g e = let same : b ≡ 92 = cc in absurd (f.1 g.0 same)
piece_same q Doubled (Plain c) x y quote f g e = let same : c ≡ q = cc in absurd (g.0 same)
piece_same q Doubled Doubled x y quote f g e = let two : x ≡ y = cc in (refl, two)
piece_same q Doubled (Escaped c) x y quote f g e = let same : q ≡ 92 = cc in absurd (quote same)
piece_same q (Escaped b) (Plain c) x y quote f g e = let same : c ≡ 92 = cc in absurd (g.1 f.0 same)
piece_same q (Escaped b) Doubled x y quote f g e = let same : q ≡ 92 = cc in absurd (quote same)
piece_same q (Escaped b) (Escaped c) x y quote f g e = let one : b ≡ c = cc in let two : x ≡ y = cc in (ap Escaped one, two)

-- no piece stands there
IsEnd : ℕ → List ℕ → Type 0
IsEnd q x = (p : Piece) (y : List ℕ) → IsPiece q p → x ≡ spelling q p ++ y → ⊥

-- what is inside the quotes is one list of pieces
pieces_same : (q : ℕ) (ps rs : List Piece) (x y : List ℕ) → q ≢ 92 → AllByRecursion (IsPiece q) ps → AllByRecursion (IsPiece q) rs → IsEnd q x → IsEnd q y → flat_map (spelling q) ps ++ x ≡ flat_map (spelling q) rs ++ y → (ps ≡ rs) × (x ≡ y)
unfolding IsEnd
pieces_same q [] [] x y quote f g c d e = (refl, e)
pieces_same q [] (r ∷ rs) x y quote f g c d e = absurd (c r (flat_map (spelling q) rs ++ y) g.0 (e ∙ append_assoc (spelling q r) (flat_map (spelling q) rs) y))
pieces_same q (p ∷ ps) [] x y quote f g c d e = absurd (d p (flat_map (spelling q) ps ++ x) f.0 (sym e ∙ append_assoc (spelling q p) (flat_map (spelling q) ps) x))
pieces_same q (p ∷ ps) (r ∷ rs) x y quote f g c d e =
    let one = piece_same q p r (flat_map (spelling q) ps ++ x) (flat_map (spelling q) rs ++ y) quote f.0 g.0 (sym (append_assoc (spelling q p) (flat_map (spelling q) ps) x) ∙ e ∙ append_assoc (spelling q r) (flat_map (spelling q) rs) y) in
    let more = pieces_same q ps rs x y quote f.1 g.1 c d one.1 in
    ((λ i. one.0 i ∷ more.0 i), more.1)

closing_end : (q : ℕ) (x rest : List ℕ) → q ≢ 92 → Closes q x rest → IsEnd q x
unfolding IsEnd
closing_end q x rest quote closes (Plain b) y piece e = let same : b ≡ q = cc (e, closes.whole) in piece.0 same
closing_end q x rest quote closes Doubled y piece e = let second : rest ≡ q ∷ y = cc (e, closes.whole) in begins_absurd (λ b. b ≡ q) rest q y closes.ends second refl
closing_end q x rest quote closes (Escaped b) y piece e = let same : q ≡ 92 = cc (e, closes.whole) in quote same

bad_end : (q : ℕ) (x : List ℕ) → q ≢ 92 → HasBadPair q x → IsEnd q x
unfolding IsEnd
bad_end q x quote bad (Plain b) y piece e = let same : b ≡ 92 = cc (e, bad.whole) in piece.1 bad.escapes same
bad_end q x quote bad Doubled y piece e = let same : q ≡ 92 = cc (e, bad.whole) in quote same
bad_end q x quote bad (Escaped b) y piece e =
    let same : b ≡ bad.second = cc (e, bad.whole) in
    let no_escape : false ≡ true = sym bad.bad ∙ ap is_escaped (sym same) ∙ piece.1 in
    cc

open_end : (q : ℕ) (x : List ℕ) → q ≢ 92 → StaysOpen q x → IsEnd q x
unfolding IsEnd
open_end q x quote (inl nothing) (Plain b) y piece e = let none : [] ≡ b ∷ y = sym nothing ∙ e in cc
open_end q x quote (inl nothing) Doubled y piece e = let none : [] ≡ q ∷ q ∷ y = sym nothing ∙ e in cc
open_end q x quote (inl nothing) (Escaped b) y piece e = let none : [] ≡ 92 ∷ b ∷ y = sym nothing ∙ e in cc
open_end q x quote (inr slash) (Plain b) y piece e = let same : b ≡ 92 = cc (e, slash.1) in piece.1 slash.0 same
open_end q x quote (inr slash) Doubled y piece e = let same : q ≡ 92 = cc (e, slash.1) in quote same
open_end q x quote (inr slash) (Escaped b) y piece e = let none : 92 ∷ [] ≡ 92 ∷ b ∷ y = sym slash.1 ∙ e in cc

-- the bytes begin with a byte of this class
record Begins (class : Class) (bytes : List ℕ) : Type 0 where
  byte : ℕ
  rest : List ℕ
  whole : bytes ≡ byte ∷ rest
  sort : class_of byte ≡ class

begins_same : (c d : Class) (bytes : List ℕ) → Begins c bytes → Begins d bytes → c ≡ d
begins_same c d bytes a b =
    let first : a.byte ≡ b.byte = cc (a.whole, b.whole) in
    sym a.sort ∙ ap class_of first ∙ b.sort

-- the class of the first byte of a token
abbrev first_class : Kind → Class
first_class Word = classes.Word
first_class Quoted = Quote
first_class Backquoted = Backquote
first_class (Mark _) = classes.Mark

word_begins : (text rest : List ℕ) → IsWord text rest → Begins classes.Word (text ++ rest)
word_begins [] rest word = absurd (omega (arith, word.some))
word_begins (b ∷ text) rest word = record { byte = b; rest = text ++ rest; whole = refl; sort = word.each.0 }

quoted_begins : (class : Class) (text rest : List ℕ) → IsQuoted class text rest → Begins class (text ++ rest)
quoted_begins class text rest quoted = record {
  byte = quoted.quote;
  rest = (flat_map (spelling quoted.quote) quoted.pieces ++ quoted.quote ∷ []) ++ rest;
  whole = ap (λ l. l ++ rest) quoted.opens.whole;
  sort = quoted.sort;
}

sort_begins : (kind : Kind) (text rest : List ℕ) → IsOfSort kind text rest → Begins (first_class kind) (text ++ rest)
sort_begins Word text rest sort = word_begins text rest sort
sort_begins Quoted text rest sort = quoted_begins Quote text rest sort
sort_begins Backquoted text rest sort = quoted_begins Backquote text rest sort
sort_begins (Mark b) text rest sort = record { byte = b; rest = rest; whole = ap (λ l. l ++ rest) sort.1; sort = sort.0 }

opens_begins : (class : Class) (q : ℕ) (ps : List Piece) (bytes rest : List ℕ) → class_of q ≡ class → Opens q ps bytes rest → Begins class bytes
opens_begins class q ps bytes rest sort opens = record { byte = q; rest = flat_map (spelling q) ps ++ rest; whole = opens.whole; sort = sort }

-- a backslash is no quote
pub not_backslash : (q : ℕ) → (class_of q ≡ Quote) ⊎ (class_of q ≡ Backquote) → q ≢ 92
not_backslash q (inl sort) same = let none : Other ≡ Quote = sym (ap class_of same) ∙ sort in cc
not_backslash q (inr sort) same = let none : Other ≡ Backquote = sym (ap class_of same) ∙ sort in cc

record OneQuote (q r : ℕ) (ps rs : List Piece) (x y : List ℕ) : Type 0 where
  quotes : q ≡ r
  pieces : ps ≡ rs
  rest : x ≡ y

-- what a quote opens is the same up to the first place where no piece goes on
opens_same : (q r : ℕ) (ps rs : List Piece) (bytes x y : List ℕ) → q ≢ 92 → Opens q ps bytes x → Opens r rs bytes y → IsEnd q x → IsEnd r y → OneQuote q r ps rs x y
opens_same q r ps rs bytes x y quote a b c d =
    let quotes : q ≡ r = cc (a.whole, b.whole) in
    let other = subst (λ k. Opens k rs bytes y) (sym quotes) b in
    let end = subst (λ k. IsEnd k y) (sym quotes) d in
    let inner : flat_map (spelling q) ps ++ x ≡ flat_map (spelling q) rs ++ y = cc (a.whole, other.whole) in
    let same = pieces_same q ps rs x y quote a.each other.each c end inner in
    record { quotes = quotes; pieces = same.0; rest = same.1 }

-- a quoted token, seen from the bytes of which it is the front
quoted_opens : (class : Class) (text rest : List ℕ) → (quoted : IsQuoted class text rest) → Opens quoted.quote quoted.pieces (text ++ rest) (quoted.quote ∷ rest)
quoted_opens class text rest quoted = record {
  whole = ap (λ l. l ++ rest) quoted.opens.whole ∙ ap (λ l. quoted.quote ∷ l) (append_assoc (flat_map (spelling quoted.quote) quoted.pieces) (quoted.quote ∷ []) rest);
  each = quoted.opens.each;
}

quoted_closes : (class : Class) (text rest : List ℕ) → (quoted : IsQuoted class text rest) → Closes quoted.quote (quoted.quote ∷ rest) rest
quoted_closes class text rest quoted = record { whole = refl; ends = quoted.ends }

string_not_backslash : (class : Class) (q : ℕ) → (class ≡ Quote) ⊎ (class ≡ Backquote) → class_of q ≡ class → q ≢ 92
string_not_backslash class q (inl e) sort = not_backslash q (inl (sort ∙ e))
string_not_backslash class q (inr e) sort = not_backslash q (inr (sort ∙ e))

quoted_same : (class : Class) (text rest other after : List ℕ) → (class ≡ Quote) ⊎ (class ≡ Backquote) → text ++ rest ≡ other ++ after → IsQuoted class text rest → IsQuoted class other after → (text ≡ other) × (rest ≡ after)
quoted_same class text rest other after class_is e a b =
    let quote = string_not_backslash class a.quote class_is a.sort in
    let quote' = string_not_backslash class b.quote class_is b.sort in
    let second = subst (λ (l : List ℕ). Opens b.quote b.pieces l (b.quote ∷ after)) (sym e) (quoted_opens class other after b) in
    let same = opens_same a.quote b.quote a.pieces b.pieces (text ++ rest) (a.quote ∷ rest) (b.quote ∷ after) quote (quoted_opens class text rest a) second (closing_end a.quote (a.quote ∷ rest) rest quote (quoted_closes class text rest a)) (closing_end b.quote (b.quote ∷ after) after quote' (quoted_closes class other after b)) in
    let rests : rest ≡ after = cc (same.rest) in
    (append_cancel_right text other after (ap (λ l. text ++ l) (sym rests) ∙ e), rests)

record SameToken (k l : Kind) (text rest other after : List ℕ) : Type 0 where
  kinds : k ≡ l
  texts : text ≡ other
  rests : rest ≡ after

-- tokens at the front of the same bytes that begin with bytes of one class
same_sort : (k l : Kind) (text rest other after : List ℕ) → first_class k ≡ first_class l → text ++ rest ≡ other ++ after → IsOfSort k text rest → IsOfSort l other after → SameToken k l text rest other after
same_sort Word Word text rest other after c e a b =
    let same = longest_same (IsOf classes.Word) text other rest after e a.each b.each a.ends b.ends in
    record { kinds = refl; texts = same.0; rests = same.1 }
same_sort Word Quoted text rest other after c e a b = absurd (cc)
same_sort Word Backquoted text rest other after c e a b = absurd (cc)
same_sort Word (Mark _) text rest other after c e a b = absurd (cc)
same_sort Quoted Word text rest other after c e a b = absurd (cc)
same_sort Quoted Quoted text rest other after c e a b =
    let same = quoted_same Quote text rest other after (inl refl) e a b in
    record { kinds = refl; texts = same.0; rests = same.1 }
same_sort Quoted Backquoted text rest other after c e a b = absurd (cc)
same_sort Quoted (Mark _) text rest other after c e a b = absurd (cc)
same_sort Backquoted Word text rest other after c e a b = absurd (cc)
same_sort Backquoted Quoted text rest other after c e a b = absurd (cc)
same_sort Backquoted Backquoted text rest other after c e a b =
    let same = quoted_same Backquote text rest other after (inr refl) e a b in
    record { kinds = refl; texts = same.0; rests = same.1 }
same_sort Backquoted (Mark _) text rest other after c e a b = absurd (cc)
same_sort (Mark _) Word text rest other after c e a b = absurd (cc)
same_sort (Mark _) Quoted text rest other after c e a b = absurd (cc)
same_sort (Mark _) Backquoted text rest other after c e a b = absurd (cc)
same_sort (Mark x) (Mark y) text rest other after c e a b =
    let whole : x ∷ rest ≡ y ∷ after = ap (λ l. l ++ rest) (sym a.1) ∙ e ∙ ap (λ l. l ++ after) b.1 in
    let mark : x ≡ y = cc (whole) in
    let rests : rest ≡ after = cc (whole) in
    record { kinds = ap Mark mark; texts = a.1 ∙ ap (λ m. m ∷ []) mark ∙ sym b.1; rests = rests }

token_same : (t u : Token) → t.kind ≡ u.kind → t.from ≡ u.from → t.to ≡ u.to → t ≡ u
token_same t u kinds froms tos = λ i. record { kind = kinds i; from = froms i; to = tos i }

stands_begins : (from : ℕ) (t : Token) (bytes rest : List ℕ) → StandsAt from t bytes rest → Begins (first_class t.kind) bytes
stands_begins from t bytes rest stands = subst (Begins (first_class t.kind)) (sym stands.whole) (sort_begins t.kind stands.text rest stands.sort)

stands_same : (from : ℕ) (t u : Token) (bytes rest after : List ℕ) → StandsAt from t bytes rest → StandsAt from u bytes after → (t ≡ u) × (rest ≡ after)
stands_same from t u bytes rest after a b =
    let class = begins_same _ _ bytes (stands_begins from t bytes rest a) (stands_begins from u bytes after b) in
    let same = same_sort t.kind u.kind a.text rest b.text after class (sym a.whole ∙ b.whole) a.sort b.sort in
    (token_same t u same.kinds (a.begins ∙ sym b.begins) (a.ends ∙ ap (λ (l : List ℕ). from + length l) same.texts ∙ sym b.ends), same.rests)

-- what a quote opens goes one way: it is closed, or has a bad pair, or stays open
closed_not_bad : (q : ℕ) (x rest : List ℕ) → q ≢ 92 → Closes q x rest → HasBadPair q x → ⊥
closed_not_bad q x rest quote closes bad = let same : q ≡ 92 = cc (closes.whole, bad.whole) in quote same

closed_not_open : (q : ℕ) (x rest : List ℕ) → q ≢ 92 → Closes q x rest → StaysOpen q x → ⊥
closed_not_open q x rest quote closes (inl nothing) = let none : q ∷ rest ≡ [] = sym closes.whole ∙ nothing in cc
closed_not_open q x rest quote closes (inr slash) = let same : q ≡ 92 = cc (closes.whole, slash.1) in quote same

bad_not_open : (q : ℕ) (x : List ℕ) → HasBadPair q x → StaysOpen q x → ⊥
bad_not_open q x bad (inl nothing) = let none : 92 ∷ bad.second ∷ bad.rest ≡ [] = sym bad.whole ∙ nothing in cc
bad_not_open q x bad (inr slash) = let none : 92 ∷ bad.second ∷ bad.rest ≡ 92 ∷ [] = sym bad.whole ∙ slash.1 in cc

-- the class of the first byte where a fault stands in a token's place
fault_begins : (from : ℕ) (bytes : List ℕ) (fault : LexRefusal) → Fails from bytes fault → Begins Other bytes ⊎ (Begins Quote bytes ⊎ Begins Backquote bytes)
fault_begins from bytes (BadByte offset) (inl bad) = inl (record { byte = bad.byte; rest = bad.rest; whole = bad.whole; sort = bad.bad })
fault_begins from bytes (BadByte offset) (inr pair) = inr (inl (opens_begins Quote pair.quote pair.pieces bytes pair.rest pair.sort pair.opens))
fault_begins from bytes (Unclosed offset) unclosed =
    ⊎_elim
    (λ sort. inr (inl (opens_begins Quote unclosed.quote unclosed.pieces bytes unclosed.rest sort unclosed.opens)))
    (λ sort. inr (inr (opens_begins Backquote unclosed.quote unclosed.pieces bytes unclosed.rest sort unclosed.opens)))
    unclosed.sort
fault_begins from bytes NoMemory fault = absurd fault

other_not_quote : (Other ≡ Quote) ⊎ (Other ≡ Backquote) → ⊥
other_not_quote (inl e) = cc
other_not_quote (inr e) = cc

-- the class of an opening quote, seen from its fault
unclosed_class : (from : ℕ) (bytes : List ℕ) (offset : ℕ) → (unclosed : IsUnclosed from bytes offset) → Begins (class_of unclosed.quote) bytes
unclosed_class from bytes offset unclosed = opens_begins (class_of unclosed.quote) unclosed.quote unclosed.pieces bytes unclosed.rest refl unclosed.opens

bad_byte_not_pair : (from : ℕ) (bytes : List ℕ) (a b : ℕ) → IsBadByte from bytes a → IsBadPair from bytes b → ⊥
bad_byte_not_pair from bytes a b bad pair =
    let none : Other ≡ Quote = begins_same Other Quote bytes (record { byte = bad.byte; rest = bad.rest; whole = bad.whole; sort = bad.bad }) (opens_begins Quote pair.quote pair.pieces bytes pair.rest pair.sort pair.opens) in
    cc

bad_byte_not_open : (from : ℕ) (bytes : List ℕ) (a b : ℕ) → IsBadByte from bytes a → IsUnclosed from bytes b → ⊥
bad_byte_not_open from bytes a b bad unclosed =
    let same : Other ≡ class_of unclosed.quote = begins_same Other _ bytes (record { byte = bad.byte; rest = bad.rest; whole = bad.whole; sort = bad.bad }) (unclosed_class from bytes b unclosed) in
    ⊎_elim (λ sort. other_not_quote (inl (same ∙ sort))) (λ sort. other_not_quote (inr (same ∙ sort))) unclosed.sort

pair_not_open : (from : ℕ) (bytes : List ℕ) (a b : ℕ) → IsBadPair from bytes a → IsUnclosed from bytes b → ⊥
pair_not_open from bytes a b pair unclosed =
    let quote = not_backslash pair.quote (inl pair.sort) in
    let quote' = not_backslash unclosed.quote unclosed.sort in
    let same = opens_same pair.quote unclosed.quote pair.pieces unclosed.pieces bytes pair.rest unclosed.rest quote pair.opens unclosed.opens (bad_end pair.quote pair.rest quote pair.bad) (open_end unclosed.quote unclosed.rest quote' unclosed.open_end) in
    let moved = subst (λ (l : List ℕ). StaysOpen unclosed.quote l) (sym same.rest) unclosed.open_end in
    bad_not_open pair.quote pair.rest pair.bad (subst (λ k. StaysOpen k pair.rest) (sym same.quotes) moved)

pair_same : (from : ℕ) (bytes : List ℕ) (a b : ℕ) → IsBadPair from bytes a → IsBadPair from bytes b → a ≡ b
pair_same from bytes a b one two =
    let quote = not_backslash one.quote (inl one.sort) in
    let quote' = not_backslash two.quote (inl two.sort) in
    let same = opens_same one.quote two.quote one.pieces two.pieces bytes one.rest two.rest quote one.opens two.opens (bad_end one.quote one.rest quote one.bad) (bad_end two.quote two.rest quote' two.bad) in
    one.place ∙ (λ i. from + 1 + length (flat_map (spelling (same.quotes i)) (same.pieces i))) ∙ sym two.place

fails_same : (from : ℕ) (bytes : List ℕ) (f g : LexRefusal) → Fails from bytes f → Fails from bytes g → f ≡ g
fails_same from bytes (BadByte a) (BadByte b) (inl one) (inl two) = ap BadByte (one.place ∙ sym two.place)
fails_same from bytes (BadByte a) (BadByte b) (inl one) (inr two) = absurd (bad_byte_not_pair from bytes a b one two)
fails_same from bytes (BadByte a) (BadByte b) (inr one) (inl two) = absurd (bad_byte_not_pair from bytes b a two one)
fails_same from bytes (BadByte a) (BadByte b) (inr one) (inr two) = ap BadByte (pair_same from bytes a b one two)
fails_same from bytes (BadByte a) (Unclosed b) (inl one) two = absurd (bad_byte_not_open from bytes a b one two)
fails_same from bytes (BadByte a) (Unclosed b) (inr one) two = absurd (pair_not_open from bytes a b one two)
fails_same from bytes (BadByte a) NoMemory one two = absurd two
fails_same from bytes (Unclosed a) (BadByte b) one (inl two) = absurd (bad_byte_not_open from bytes b a two one)
fails_same from bytes (Unclosed a) (BadByte b) one (inr two) = absurd (pair_not_open from bytes b a two one)
fails_same from bytes (Unclosed a) (Unclosed b) one two = ap Unclosed (one.place ∙ sym two.place)
fails_same from bytes (Unclosed a) NoMemory one two = absurd two
fails_same from bytes NoMemory g one two = absurd one

-- a quoted token has no fault in its place
quoted_holds : (class : Class) (from : ℕ) (text rest : List ℕ) (fault : LexRefusal) → (class ≡ Quote) ⊎ (class ≡ Backquote) → IsQuoted class text rest → Fails from (text ++ rest) fault → ⊥
quoted_holds class from text rest (BadByte offset) class_is quoted (inl bad) =
    let same : class ≡ Other = begins_same class Other (text ++ rest) (quoted_begins class text rest quoted) (record { byte = bad.byte; rest = bad.rest; whole = bad.whole; sort = bad.bad }) in
    ⊎_elim (λ e. other_not_quote (inl (sym same ∙ e))) (λ e. other_not_quote (inr (sym same ∙ e))) class_is
quoted_holds class from text rest (BadByte offset) class_is quoted (inr pair) =
    let quote = string_not_backslash class quoted.quote class_is quoted.sort in
    let quote' = not_backslash pair.quote (inl pair.sort) in
    let closes = quoted_closes class text rest quoted in
    let same = opens_same quoted.quote pair.quote quoted.pieces pair.pieces (text ++ rest) (quoted.quote ∷ rest) pair.rest quote (quoted_opens class text rest quoted) pair.opens (closing_end quoted.quote (quoted.quote ∷ rest) rest quote closes) (bad_end pair.quote pair.rest quote' pair.bad) in
    let moved = subst (λ (l : List ℕ). HasBadPair pair.quote l) (sym same.rest) pair.bad in
    closed_not_bad quoted.quote (quoted.quote ∷ rest) rest quote closes (subst (λ k. HasBadPair k (quoted.quote ∷ rest)) (sym same.quotes) moved)
quoted_holds class from text rest (Unclosed offset) class_is quoted unclosed =
    let quote = string_not_backslash class quoted.quote class_is quoted.sort in
    let quote' = not_backslash unclosed.quote unclosed.sort in
    let closes = quoted_closes class text rest quoted in
    let same = opens_same quoted.quote unclosed.quote quoted.pieces unclosed.pieces (text ++ rest) (quoted.quote ∷ rest) unclosed.rest quote (quoted_opens class text rest quoted) unclosed.opens (closing_end quoted.quote (quoted.quote ∷ rest) rest quote closes) (open_end unclosed.quote unclosed.rest quote' unclosed.open_end) in
    let moved = subst (λ (l : List ℕ). StaysOpen unclosed.quote l) (sym same.rest) unclosed.open_end in
    closed_not_open quoted.quote (quoted.quote ∷ rest) rest quote closes (subst (λ k. StaysOpen k (quoted.quote ∷ rest)) (sym same.quotes) moved)
quoted_holds class from text rest NoMemory class_is quoted fault = absurd fault

plain_holds : (class : Class) (from : ℕ) (bytes : List ℕ) (fault : LexRefusal) → Begins class bytes → (class ≡ Other → ⊥) → (class ≡ Quote → ⊥) → (class ≡ Backquote → ⊥) → Fails from bytes fault → ⊥
plain_holds class from bytes fault begins other string name fails =
    ⊎_elim
    (λ b. other (begins_same class Other bytes begins b))
    (λ quotes. ⊎_elim (λ b. string (begins_same class Quote bytes begins b)) (λ b. name (begins_same class Backquote bytes begins b)) quotes)
    (fault_begins from bytes fault fails)

sort_holds : (kind : Kind) (from : ℕ) (text rest : List ℕ) (fault : LexRefusal) → IsOfSort kind text rest → Fails from (text ++ rest) fault → ⊥
sort_holds Word from text rest fault sort fails = plain_holds classes.Word from (text ++ rest) fault (sort_begins Word text rest sort) (λ e. cc) (λ e. cc) (λ e. cc) fails
sort_holds Quoted from text rest fault sort fails = quoted_holds Quote from text rest fault (inl refl) sort fails
sort_holds Backquoted from text rest fault sort fails = quoted_holds Backquote from text rest fault (inr refl) sort fails
sort_holds (Mark b) from text rest fault sort fails = plain_holds classes.Mark from (text ++ rest) fault (sort_begins (Mark b) text rest sort) (λ e. cc) (λ e. cc) (λ e. cc) fails

stands_holds : (from : ℕ) (t : Token) (bytes rest : List ℕ) (fault : LexRefusal) → StandsAt from t bytes rest → Fails from bytes fault → ⊥
stands_holds from t bytes rest fault stands fails = sort_holds t.kind from stands.text rest fault stands.sort (subst (λ (l : List ℕ). Fails from l fault) stands.whole fails)

-- what is no blank
begins_no_blank : (class : Class) (bytes : List ℕ) → Begins class bytes → (class ≡ Blank → ⊥) → BeginsWithout (IsOf Blank) bytes
begins_no_blank class [] begins not_blank = tt
begins_no_blank class (b ∷ bytes) begins not_blank = λ blank.
    let first : begins.byte ≡ b = cc (begins.whole) in
    not_blank (sym begins.sort ∙ ap class_of first ∙ blank)

kind_no_blank : (kind : Kind) → first_class kind ≡ Blank → ⊥
kind_no_blank Word e = cc
kind_no_blank Quoted e = cc
kind_no_blank Backquoted e = cc
kind_no_blank (Mark _) e = cc

stands_no_blank : (from : ℕ) (t : Token) (bytes rest : List ℕ) → StandsAt from t bytes rest → BeginsWithout (IsOf Blank) bytes
stands_no_blank from t bytes rest stands = begins_no_blank _ bytes (stands_begins from t bytes rest stands) (kind_no_blank t.kind)

fails_no_blank : (from : ℕ) (bytes : List ℕ) (fault : LexRefusal) → Fails from bytes fault → BeginsWithout (IsOf Blank) bytes
fails_no_blank from bytes fault fails =
    ⊎_elim
    (λ b. begins_no_blank Other bytes b (λ e. cc))
    (λ quotes. ⊎_elim (λ b. begins_no_blank Quote bytes b (λ e. cc)) (λ b. begins_no_blank Backquote bytes b (λ e. cc)) quotes)
    (fault_begins from bytes fault fails)

-- both stand behind the same blanks
past_both : (P Q : ℕ → List ℕ → Type 0) (at : ℕ) (bytes : List ℕ) → ((from : ℕ) (rest : List ℕ) → P from rest → BeginsWithout (IsOf Blank) rest) → ((from : ℕ) (rest : List ℕ) → Q from rest → BeginsWithout (IsOf Blank) rest) → PastBlanks P at bytes → PastBlanks Q at bytes → (from : ℕ) × (rest : List ℕ) × P from rest × Q from rest
past_both P Q at bytes p q a b =
    let same = longest_same (IsOf Blank) a.blanks b.blanks a.rest b.rest (sym a.whole ∙ b.whole) a.each b.each (p _ _ a.next) (q _ _ b.next) in
    let moved = subst (λ (l : List ℕ). Q (at + length l) b.rest) (sym same.0) b.next in
    (at + length a.blanks, a.rest, a.next, subst (λ (l : List ℕ). Q (at + length a.blanks) l) (sym same.1) moved)

-- nothing stands behind blanks alone
past_none : (P : ℕ → List ℕ → Type 0) (at : ℕ) (bytes : List ℕ) → ((from : ℕ) (rest : List ℕ) → P from rest → BeginsWithout (IsOf Blank) rest) → ((from : ℕ) → P from [] → ⊥) → PastBlanks P at bytes → AllByRecursion (IsOf Blank) bytes → ⊥
past_none P at bytes p none a blank =
    let same = longest_same (IsOf Blank) a.blanks bytes a.rest [] (sym a.whole ∙ sym (append-nil bytes)) a.each blank (p _ _ a.next) tt in
    none (at + length a.blanks) (subst (λ (l : List ℕ). P (at + length a.blanks) l) same.1 a.next)

begins_some : (class : Class) → Begins class [] → ⊥
begins_some class begins = let none : [] ≡ begins.byte ∷ begins.rest = begins.whole in cc

stands_some : (from : ℕ) (t : Token) (rest : List ℕ) → StandsAt from t [] rest → ⊥
stands_some from t rest stands = begins_some _ (stands_begins from t [] rest stands)

fails_some : (from : ℕ) (fault : LexRefusal) → Fails from [] fault → ⊥
fails_some from fault fails =
    ⊎_elim (begins_some Other) (λ quotes. ⊎_elim (begins_some Quote) (begins_some Backquote) quotes) (fault_begins from [] fault fails)

pub some_none : {A : Type 0} (x : A) → Some x ≡ None → ⊥
some_none x e = cc

pub record OneReading (ts us : List Token) (end other : Option LexRefusal) : Type 0 where
  pub tokens : ts ≡ us
  pub ends : end ≡ other

-- there is one reading of a text
pub reads_same : (at : ℕ) (bytes : List ℕ) (ts us : List Token) (end other : Option LexRefusal) → Reads at bytes ts end → Reads at bytes us other → OneReading ts us end other
reads_same at bytes [] [] None None a b = record { tokens = refl; ends = refl }
reads_same at bytes [] [] None (Some g) a b = absurd (past_none (λ from rest. Fails from rest g) at bytes (λ from rest. fails_no_blank from rest g) (λ from. fails_some from g) b a)
reads_same at bytes [] [] (Some f) None a b = absurd (past_none (λ from rest. Fails from rest f) at bytes (λ from rest. fails_no_blank from rest f) (λ from. fails_some from f) a b)
reads_same at bytes [] [] (Some f) (Some g) a b =
    let both = past_both (λ from rest. Fails from rest f) (λ from rest. Fails from rest g) at bytes (λ from rest. fails_no_blank from rest f) (λ from rest. fails_no_blank from rest g) a b in
    record { tokens = refl; ends = ap Some (fails_same both.0 both.1 f g both.2 both.3) }
reads_same at bytes [] (u ∷ us) None other a b = absurd (past_none (λ from text. StandsAt from u text b.0) at bytes (λ from rest. stands_no_blank from u rest b.0) (λ from. stands_some from u b.0) b.1 a)
reads_same at bytes [] (u ∷ us) (Some f) other a b =
    let both = past_both (λ from rest. Fails from rest f) (λ from text. StandsAt from u text b.0) at bytes (λ from rest. fails_no_blank from rest f) (λ from rest. stands_no_blank from u rest b.0) a b.1 in
    absurd (stands_holds both.0 u both.1 b.0 f both.3 both.2)
reads_same at bytes (t ∷ ts) [] end None a b = absurd (past_none (λ from text. StandsAt from t text a.0) at bytes (λ from rest. stands_no_blank from t rest a.0) (λ from. stands_some from t a.0) a.1 b)
reads_same at bytes (t ∷ ts) [] end (Some g) a b =
    let both = past_both (λ from rest. Fails from rest g) (λ from text. StandsAt from t text a.0) at bytes (λ from rest. fails_no_blank from rest g) (λ from rest. stands_no_blank from t rest a.0) b a.1 in
    absurd (stands_holds both.0 t both.1 a.0 g both.3 both.2)
reads_same at bytes (t ∷ ts) (u ∷ us) end other a b =
    let both = past_both (λ from text. StandsAt from t text a.0) (λ from text. StandsAt from u text b.0) at bytes (λ from rest. stands_no_blank from t rest a.0) (λ from rest. stands_no_blank from u rest b.0) a.1 b.1 in
    let same = stands_same both.0 t u both.1 a.0 b.0 both.2 both.3 in
    let moved = subst (λ (l : List ℕ). Reads u.to l us other) (sym same.1) b.2 in
    let here = subst (λ (v : Token). Reads v.to a.0 us other) (sym same.0) moved in
    let more = reads_same t.to a.0 ts us end other a.2 here in
    record { tokens = λ i. same.0 i ∷ more.tokens i; ends = more.ends }

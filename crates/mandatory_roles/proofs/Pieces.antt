-- A name or a host at the front of a text is found exactly where it stands.
use Rattle.std.proofs.Common.{◌≡◌, ◌≢◌, ℕ, Bool, true, false, cond, eqb, not, ◌||◌, ◌==◌, List, [], ◌∷◌, ◌++◌, Option, Some, None, refl, sym, subst, ap, ◌∙◌, arith, append_assoc, inl, inr}
use Rattle.std.proofs.lemmas.Bool.Decides.{nat_tests}
use Rattle.std.specs.List.{AllByRecursion}
use Rattle.acl_names.specs.Quoted.{doubled, quoted}
use Rattle.grant_lex.specs.Class.{is_blank, is_quote, is_word_byte}
use Rattle.grant_lex.specs.Value.{inside_value, value_of}
use Rattle.grant_lex.specs.Reserved.{is_reserved}
use Rattle.mandatory_roles.specs.Cutting.{Cut, byte_before, closed_at, host_at, is_empty, name_at, plain_host_at, quoted_at, word_at}
use Rattle.mandatory_roles.specs.Runs.{is_host_byte, past_run, run_of}
use Rattle.mandatory_roles.specs.Spelling.{IsFreeWord, IsPlainHost, SpellsHost, SpellsName}
use Rattle.mandatory_roles.proofs.Bytes.{StopsAt, class_from_word, each_from, is_byte, past_exact, run_each, run_exact, run_whole, word_from_class}
use Rattle.mandatory_roles.proofs.Closings.{BeginsOther}
use Rattle.mandatory_roles.proofs.Names.{IsClosed, closed_exact, closed_found, value_quoted}

-- any byte but those that may follow a name: the blanks, `@` and the comma
abbrev pub is_name_going : ℕ → Bool
is_name_going b = not (is_blank b || b == 64 || b == 44)

word_byte_going : (b : ℕ) → is_name_going b ≡ false → is_word_byte b ≡ false
word_byte_going b e = grind (arith, nat_tests)

backquote_going : (b : ℕ) → is_name_going b ≡ false → b ≢ 96
backquote_going b e = grind (arith, nat_tests)

backquote_host : (b : ℕ) → is_host_byte b ≡ false → b ≢ 96
backquote_host b e = grind (arith, nat_tests)

word_backquote : (b : ℕ) → is_word_byte b ≡ true → eqb b 96 ≡ false
word_backquote b e = grind (arith, nat_tests)

word_quote : (b : ℕ) → is_word_byte b ≡ true → is_quote b ≡ false
word_quote b e = grind (arith, nat_tests)

word_blank : (b : ℕ) → is_word_byte b ≡ true → is_blank b ≡ false
word_blank b e = grind (arith, nat_tests)

host_blank : (b : ℕ) → is_host_byte b ≡ true → is_blank b ≡ false
host_blank b e = grind (arith, nat_tests)

stops_word : (rest : List ℕ) → StopsAt is_name_going rest → StopsAt is_word_byte rest
stops_word [] stops = tt
stops_word (b ∷ rest) stops = word_byte_going b stops

stops_backquote : (rest : List ℕ) → StopsAt is_name_going rest → BeginsOther rest
stops_backquote [] stops = tt
stops_backquote (b ∷ rest) stops = backquote_going b stops

host_stops_backquote : (rest : List ℕ) → StopsAt is_host_byte rest → BeginsOther rest
host_stops_backquote [] stops = tt
host_stops_backquote (b ∷ rest) stops = backquote_host b stops

-- names between backquotes
quoted_exact : (name rest : List ℕ) → BeginsOther rest → quoted_at (quoted name ++ rest) ≡ Some (record { front = quoted name; rest = rest })
quoted_exact name rest other =
    ap (λ l. byte_before 96 (closed_at l)) (append_assoc (doubled name) (96 ∷ []) rest) ∙ ap (byte_before 96) (closed_exact name rest other)

-- a word, where it is not reserved
word_cut : List ℕ → List ℕ → Option Cut
word_cut front rest = cond (is_empty front || is_reserved front) None (Some (record { front = front; rest = rest }))

word_exact : (b : ℕ) (bs rest : List ℕ) → AllByRecursion (λ c. is_word_byte c ≡ true) (b ∷ bs) → is_reserved (b ∷ bs) ≡ false → StopsAt is_word_byte rest → word_at ((b ∷ bs) ++ rest) ≡ Some (record { front = b ∷ bs; rest = rest })
unfolding word_cut
word_exact b bs rest each free stops =
    let front = run_exact is_word_byte (b ∷ bs) rest each stops in
    let past = past_exact is_word_byte (b ∷ bs) rest each stops in
    let same : word_at ((b ∷ bs) ++ rest) ≡ word_cut (b ∷ bs) rest = λ i. word_cut (front i) (past i) in
    same ∙ ap (λ t. cond t None (Some (let c : Cut = record { front = b ∷ bs; rest = rest } in c))) free

free_name : (text rest : List ℕ) → IsFreeWord text → StopsAt is_name_going rest → name_at (text ++ rest) ≡ Some (record { front = text; rest = rest })
free_name [] rest free stops = absurd (omega (arith, free.word.some))
free_name (b ∷ bs) rest free stops =
    let each = each_from word_from_class (b ∷ bs) free.word.each in
    ap (λ t. cond t (quoted_at (b ∷ bs ++ rest)) (word_at (b ∷ bs ++ rest))) (word_backquote b each.0)
    ∙ word_exact b bs rest each free.free (stops_word rest stops)

pub name_exact : (text user rest : List ℕ) → SpellsName text user → StopsAt is_name_going rest → name_at (text ++ rest) ≡ Some (record { front = text; rest = rest })
name_exact text user rest (inl word) stops = free_name text rest word.0 stops
name_exact text user rest (inr same) stops =
    subst (λ l. name_at (l ++ rest) ≡ Some (record { front = l; rest = rest })) (sym same) (quoted_exact user rest (stops_backquote rest stops))

free_value : (text : List ℕ) → IsFreeWord text → value_of text ≡ text
free_value [] free = refl
free_value (b ∷ bs) free = ap (λ t. cond t (inside_value b bs) (b ∷ bs)) (word_quote b (word_from_class b free.word.each.0))

pub name_value : (text user : List ℕ) → SpellsName text user → value_of text ≡ user
name_value text user (inl word) = free_value text word.0 ∙ word.1
name_value text user (inr same) = ap value_of same ∙ value_quoted user

free_begins : (text rest : List ℕ) → IsFreeWord text → StopsAt is_blank (text ++ rest)
free_begins [] rest free = absurd (omega (arith, free.word.some))
free_begins (b ∷ bs) rest free = word_blank b (word_from_class b free.word.each.0)

pub name_begins : (text user rest : List ℕ) → SpellsName text user → StopsAt is_blank (text ++ rest)
name_begins text user rest (inl word) = free_begins text rest word.0
name_begins text user rest (inr same) = subst (λ l. StopsAt is_blank (l ++ rest)) (sym same) refl

-- hosts
host_cut : Bool → List ℕ → List ℕ → Option Cut
host_cut quote front rest = cond (quote || is_empty front) None (Some (record { front = front; rest = rest }))

no_quotes : (b : ℕ) → is_quote b ≡ false → eqb b 39 || eqb b 34 ≡ false
no_quotes b e = grind (arith, nat_tests)

no_backquote : (b : ℕ) → is_quote b ≡ false → eqb b 96 ≡ false
no_backquote b e = grind (arith, nat_tests)

false_unless : (t : Bool) → (t ≡ true → ⊥) → t ≡ false
false_unless true not_true = absurd (not_true refl)
false_unless false not_true = refl

plain_exact : (b : ℕ) (bs rest : List ℕ) → AllByRecursion (λ c. is_host_byte c ≡ true) (b ∷ bs) → is_quote b ≡ false → StopsAt is_host_byte rest → plain_host_at ((b ∷ bs) ++ rest) ≡ Some (record { front = b ∷ bs; rest = rest })
unfolding host_cut
plain_exact b bs rest each unquoted stops =
    let front = run_exact is_host_byte (b ∷ bs) rest each stops in
    let past = past_exact is_host_byte (b ∷ bs) rest each stops in
    let quotes = no_quotes b unquoted in
    let same : plain_host_at ((b ∷ bs) ++ rest) ≡ host_cut false (b ∷ bs) rest = λ i. host_cut (quotes i) (front i) (past i) in
    same

plain_host : (text rest : List ℕ) → IsPlainHost text → StopsAt is_host_byte rest → host_at (text ++ rest) ≡ Some (record { front = text; rest = rest })
plain_host [] rest plain stops = absurd (plain.some refl)
plain_host (b ∷ bs) rest plain stops =
    let unquoted = false_unless (is_quote b) plain.unquoted in
    ap (λ t. cond t (quoted_at (b ∷ bs ++ rest)) (plain_host_at (b ∷ bs ++ rest))) (no_backquote b unquoted)
    ∙ plain_exact b bs rest plain.each unquoted stops

pub host_exact : (text host rest : List ℕ) → SpellsHost text host → StopsAt is_host_byte rest → host_at (text ++ rest) ≡ Some (record { front = text; rest = rest })
host_exact text host rest (inl plain) stops = plain_host text rest plain.0 stops
host_exact text host rest (inr same) stops =
    subst (λ l. host_at (l ++ rest) ≡ Some (record { front = l; rest = rest })) (sym same) (quoted_exact host rest (host_stops_backquote rest stops))

plain_value : (text : List ℕ) → IsPlainHost text → value_of text ≡ text
plain_value [] plain = refl
plain_value (b ∷ bs) plain = ap (λ t. cond t (inside_value b bs) (b ∷ bs)) (false_unless (is_quote b) plain.unquoted)

pub host_value : (text host : List ℕ) → SpellsHost text host → value_of text ≡ host
host_value text host (inl plain) = plain_value text plain.0 ∙ plain.1
host_value text host (inr same) = ap value_of same ∙ value_quoted host

plain_begins : (text rest : List ℕ) → IsPlainHost text → StopsAt is_blank (text ++ rest)
plain_begins [] rest plain = absurd (plain.some refl)
plain_begins (b ∷ bs) rest plain = host_blank b plain.each.0

pub host_begins : (text host rest : List ℕ) → SpellsHost text host → StopsAt is_blank (text ++ rest)
host_begins text host rest (inl plain) = plain_begins text rest plain.0
host_begins text host rest (inr same) = subst (λ l. StopsAt is_blank (l ++ rest)) (sym same) refl

-- and what is found is a name or a host
pub record IsFoundAt (Spells : List ℕ → List ℕ → Type 0) (text : List ℕ) (cut : Cut) : Type 0 where
  pub whole : text ≡ cut.front ++ cut.rest
  pub spelled : Spells cut.front (value_of cut.front)

abbrev pub IsFound : (List ℕ → List ℕ → Type 0) → List ℕ → Option Cut → Type 0
IsFound Spells text None = Unit {0}
IsFound Spells text (Some cut) = IsFoundAt Spells text cut

quoted_spelled : (front name : List ℕ) → front ≡ quoted name → front ≡ quoted (value_of front)
quoted_spelled front name same = same ∙ ap quoted (sym (value_quoted name) ∙ ap value_of (sym same))

quoted_name : (bs : List ℕ) (o : Option Cut) → IsClosed bs o → IsFound SpellsName (96 ∷ bs) (byte_before 96 o)
quoted_name bs None closed = tt
quoted_name bs (Some cut) closed = record {
  whole = ap (λ l. 96 ∷ l) closed.whole;
  spelled = inr (quoted_spelled (96 ∷ cut.front) closed.name (ap (λ l. 96 ∷ l) closed.front));
}

quoted_host : (bs : List ℕ) (o : Option Cut) → IsClosed bs o → IsFound SpellsHost (96 ∷ bs) (byte_before 96 o)
quoted_host bs None closed = tt
quoted_host bs (Some cut) closed = record {
  whole = ap (λ l. 96 ∷ l) closed.whole;
  spelled = inr (quoted_spelled (96 ∷ cut.front) closed.name (ap (λ l. 96 ∷ l) closed.front));
}

free_from : (front : List ℕ) → AllByRecursion (λ c. is_word_byte c ≡ true) front → is_empty front || is_reserved front ≡ false → IsFreeWord front
free_from [] each free = cc
free_from (b ∷ bs) each free = record {
  word = record { some = omega arith; each = each_from class_from_word (b ∷ bs) each; ends = tt };
  free = free;
}

word_test : (text : List ℕ) (t : Bool) → is_empty (run_of is_word_byte text) || is_reserved (run_of is_word_byte text) ≡ t → IsFound SpellsName text (cond t None (Some (record { front = run_of is_word_byte text; rest = past_run is_word_byte text })))
word_test text true e = tt
word_test text false e =
    let free = free_from (run_of is_word_byte text) (run_each is_word_byte text) e in
    record { whole = run_whole is_word_byte text; spelled = inl (free, sym (free_value (run_of is_word_byte text) free)) }

name_test : (b : ℕ) (bs : List ℕ) (t : Bool) → eqb b 96 ≡ t → IsFound SpellsName (b ∷ bs) (cond t (quoted_at (b ∷ bs)) (word_at (b ∷ bs)))
name_test b bs true e = subst (λ k. IsFound SpellsName (k ∷ bs) (byte_before k (closed_at bs))) (sym (is_byte b 96 e)) (quoted_name bs (closed_at bs) (closed_found bs))
name_test b bs false e = word_test (b ∷ bs) _ refl

pub name_found : (text : List ℕ) → IsFound SpellsName text (name_at text)
name_found [] = tt
name_found (b ∷ bs) = name_test b bs (eqb b 96) refl

quote_from : (b : ℕ) → eqb b 39 || eqb b 34 ≡ false → eqb b 96 ≡ false → is_quote b ≡ true → ⊥
quote_from b e f g = grind (arith, nat_tests)

run_unquoted : (b : ℕ) (bs : List ℕ) (t : Bool) → is_host_byte b ≡ t → eqb b 39 || eqb b 34 ≡ false → eqb b 96 ≡ false → is_empty (cond t (b ∷ run_of is_host_byte bs) []) ≡ false → IsPlainHost (cond t (b ∷ run_of is_host_byte bs) [])
run_unquoted b bs true e quotes backquote some = record {
  some = λ same. cc;
  each = (e, run_each is_host_byte bs);
  unquoted = quote_from b quotes backquote;
}
run_unquoted b bs false e quotes backquote some = cc

or_false_first : (a b : Bool) → a || b ≡ false → a ≡ false
or_false_first true b e = cc
or_false_first false b e = refl

or_false_second : (a b : Bool) → a || b ≡ false → b ≡ false
or_false_second true b e = cc
or_false_second false b e = e

plain_test : (b : ℕ) (bs : List ℕ) (t : Bool) → eqb b 96 ≡ false → (eqb b 39 || eqb b 34) || is_empty (run_of is_host_byte (b ∷ bs)) ≡ t → IsFound SpellsHost (b ∷ bs) (cond t None (Some (record { front = run_of is_host_byte (b ∷ bs); rest = past_run is_host_byte (b ∷ bs) })))
plain_test b bs true backquote e = tt
plain_test b bs false backquote e =
    let plain = run_unquoted b bs (is_host_byte b) refl (or_false_first _ _ e) backquote (or_false_second _ _ e) in
    record { whole = run_whole is_host_byte (b ∷ bs); spelled = inl (plain, sym (plain_value (run_of is_host_byte (b ∷ bs)) plain)) }

host_test : (b : ℕ) (bs : List ℕ) (t : Bool) → eqb b 96 ≡ t → IsFound SpellsHost (b ∷ bs) (cond t (quoted_at (b ∷ bs)) (plain_host_at (b ∷ bs)))
host_test b bs true e = subst (λ k. IsFound SpellsHost (k ∷ bs) (byte_before k (closed_at bs))) (sym (is_byte b 96 e)) (quoted_host bs (closed_at bs) (closed_found bs))
host_test b bs false e = plain_test b bs _ e refl

pub host_found : (text : List ℕ) → IsFound SpellsHost text (host_at text)
host_found [] = tt
host_found (b ∷ bs) = host_test b bs (eqb b 96) refl

-- One step of a loop that reads one item after the other.
use Rattle.std.proofs.Common.{◌≡◌, ◌++◌, ◌∷◌, [], ◌≤◌, ◌<◌, Bool, true, false, cond, List, length, map, Ok, Err, Result, ap, refl, sym, ◌∙◌, append_assoc, length-append, arith}
use Rattle.std.proofs.lemmas.List.{map-append}
use Rattle.acl_grammar.specs.Grammar.{Grammar}
use Rattle.acl_grammar.specs.Grammar.Grammar.{list, many}
use Rattle.acl_grammar.specs.Reader.{Reading, Sane, begins, expected, onward, mapped, behind, in_front, first, nullable, goes_on, read, read_after, read_many}
use Rattle.acl_grammar.specs.Spelling.{spells}
use Rattle.acl_grammar.proofs.Exact.{Shrinks, took_of, shrinks_of, some_left}
use Rattle.acl_grammar.proofs.Theorem.{exact, full_of}

-- a reading with values in front of what it gives
abbrev pub following : {T A : Type 0} → List A → Reading T (List A) → Reading T (List A)
following vs x = mapped (λ ws. vs ++ ws) x

-- what is left to read of a list behind an item
abbrev pub more_items : {T A : Type 0} → (T → Bool) → Grammar T A → List T → Reading T (List A)
more_items is g ts = read_many is (read_after is (read g)) ts

following_one : {T A : Type 0} (v : A) (x : Reading T (List A)) → mapped in_front (mapped (λ w. (v, w)) x) ≡ following (v ∷ []) x
following_one v (Ok q) = refl
following_one v (Err bad) = refl

following_twice : {T A : Type 0} (vs : List A) (v : A) (x : Reading T (List A)) → following vs (following (v ∷ []) x) ≡ following (vs ++ v ∷ []) x
following_twice vs v (Ok q) = ap (λ ws. Ok (ws, q.1)) (sym (append_assoc vs (v ∷ []) q.0))
following_twice vs v (Err bad) = refl

map_push : {V A : Type 0} (view : V → A) (values : List V) (value : V) → map view values ++ view value ∷ [] ≡ map view (values ++ value ∷ [])
map_push view values value = sym (map-append view values (value ∷ []))

-- of any number of a rule
pub many_next : {T V A : Type 0} (g : Grammar T A) → Sane g → nullable g ≡ false
    → (view : V → A) (whole : Reading T (List A)) (values : List V) (value : V) (ts rest : List T)
    → whole ≡ following (map view values) (read (many g) ts) → begins (first g) ts ≡ true → read g ts ≡ Ok (view value, rest)
    → whole ≡ following (map view (values ++ value ∷ [])) (read (many g) rest)
many_next g sane full view whole values value ts rest before h here =
    let M = read_many (first g) (read g) in
    let shrinks : Shrinks (read g) = shrinks_of (spells g) (goes_on g) (read g) (exact g sane) (full_of g full) in
    before ∙ ap (following (map view values)) (some_left (first g) (read g) shrinks ts h ∙ ap (λ x. mapped in_front (behind x M)) here ∙ following_one (view value) (M rest))
    ∙ following_twice (map view values) (view value) (M rest)
    ∙ ap (λ vs. following vs (M rest)) (map_push view values value)

pub many_shorter : {T A : Type 0} (g : Grammar T A) → Sane g → nullable g ≡ false
    → (ts : List T) (v : A) (rest : List T) → read g ts ≡ Ok (v, rest) → length rest < length ts
many_shorter g sane full = shrinks_of (spells g) (goes_on g) (read g) (exact g sane) (full_of g full)

-- of a list with marks
expected_shorter_at : {T : Type 0} (is : T → Bool) (t : T) (ts us : List T) (b : Bool) → is t ≡ b
    → cond b (Ok ts) (Err (t ∷ ts)) ≡ Ok us → (is t ≡ true) × (length us < length (t ∷ ts))
expected_shorter_at is t ts us true e h = let same : ts ≡ us = cc in (e, (let k : length ts ≡ length us = ap length same in omega arith))
expected_shorter_at is t ts us false e h = absurd cc

expected_shorter : {T : Type 0} (is : T → Bool) (ts us : List T) → expected is ts ≡ Ok us → (begins is ts ≡ true) × (length us < length ts)
expected_shorter is [] us h = absurd cc
expected_shorter is (t ∷ ts) us h = expected_shorter_at is t ts us (is t) refl h

leaves : {T A : Type 0} (g : Grammar T A) → Sane g → (ts : List T) (v : A) (rest : List T) → read g ts ≡ Ok (v, rest) → length rest ≤ length ts
leaves g sane ts v rest h =
    let k = took_of (spells g) (goes_on g) (read g) (exact g sane) ts v rest h in
    let e : length ts ≡ length (k.front ++ rest) = ap length k.whole in
    omega (arith, length-append k.front rest)

pub list_shorter : {T A : Type 0} (is : T → Bool) (g : Grammar T A) → Sane g
    → (ts us : List T) (v : A) (rest : List T) → expected is ts ≡ Ok us → read g us ≡ Ok (v, rest) → length rest < length ts
list_shorter is g sane ts us v rest h here =
    let less : length us < length ts = (expected_shorter is ts us h).1 in
    let most : length rest ≤ length us = leaves g sane us v rest here in omega arith

after_shrinks_at : {T A : Type 0} (is : T → Bool) (g : Grammar T A) → Sane g → (ts : List T) (v : A) (rest : List T)
    → (x : Result (List T) (List T)) → expected is ts ≡ x → onward x (read g) ≡ Ok (v, rest) → length rest < length ts
after_shrinks_at is g sane ts v rest (Ok us) h here = list_shorter is g sane ts us v rest h here
after_shrinks_at is g sane ts v rest (Err bad) h here = absurd cc

after_shrinks : {T A : Type 0} (is : T → Bool) (g : Grammar T A) → Sane g → Shrinks (read_after is (read g))
after_shrinks is g sane ts v rest h = after_shrinks_at is g sane ts v rest (expected is ts) refl h

pub list_first : {T V A : Type 0} (is : T → Bool) (g : Grammar T A) (view : V → A) (value : V) (ts rest : List T)
    → read g ts ≡ Ok (view value, rest) → read (list is g) ts ≡ following (map view (value ∷ [])) (more_items is g rest)
list_first is g view value ts rest h =
    ap (λ x. mapped in_front (behind x (more_items is g))) h ∙ following_one (view value) (more_items is g rest)

pub list_next : {T V A : Type 0} (is : T → Bool) (g : Grammar T A) → Sane g
    → (view : V → A) (whole : Reading T (List A)) (values : List V) (value : V) (ts us rest : List T)
    → whole ≡ following (map view values) (more_items is g ts) → expected is ts ≡ Ok us → read g us ≡ Ok (view value, rest)
    → whole ≡ following (map view (values ++ value ∷ [])) (more_items is g rest)
list_next is g sane view whole values value ts us rest before h here =
    let r = read_after is (read g) in let M = read_many is r in
    before ∙ ap (following (map view values)) (some_left is r (after_shrinks is g sane) ts (expected_shorter is ts us h).0
    ∙ ap (λ x. mapped in_front (behind (onward x (read g)) M)) h ∙ ap (λ x. mapped in_front (behind x M)) here ∙ following_one (view value) (M rest))
    ∙ following_twice (map view values) (view value) (M rest)
    ∙ ap (λ vs. following vs (M rest)) (map_push view values value)

-- How a grammar is read from the front of a list, one token ahead.
use Rattle.std.specs.Prelude.{ℕ, zero, suc, ◌≡◌, ◌&&◌, ◌||◌, Bool, IsTrue, true, false, cond, List, [], ◌∷◌, length, nat_le, Option, Some, None, Result, Ok, Err}
use Rattle.acl_grammar.specs.Grammar.{Grammar}
use Rattle.acl_grammar.specs.Grammar.Grammar.{token, after, empty, both, to, choice, list, many}

-- a value and what is left behind it, or what is left from the token on that does not fit
abbrev pub Reading : Type 0 → Type 0 → Type 0
Reading T A = Result (A × List T) (List T)

abbrev pub next : {T : Type 0} → List T → Option T
next [] = None
next (t ∷ _) = Some t

-- the next token is of the class
abbrev pub begins : {T : Type 0} → (T → Bool) → List T → Bool
begins p [] = false
begins p (t ∷ _) = p t

abbrev pub mapped : {T A B : Type 0} → (A → B) → Reading T A → Reading T B
mapped f (Ok q) = Ok (f q.0, q.1)
mapped f (Err bad) = Err bad

-- a second reader goes on where the first one ended
abbrev pub behind : {T A B : Type 0} → Reading T A → (List T → Reading T B) → Reading T (A × B)
behind (Ok q) s = mapped (λ w. (q.0, w)) (s q.1)
behind (Err bad) s = Err bad

abbrev pub read_token : {T A : Type 0} → (T → Bool) → (T → A) → List T → Reading T A
read_token is value [] = Err []
read_token is value (t ∷ ts) = cond (is t) (Ok (value t, ts)) (Err (t ∷ ts))

-- what is left behind a token of the class
abbrev pub expected : {T : Type 0} → (T → Bool) → List T → Result (List T) (List T)
expected is [] = Err []
expected is (t ∷ ts) = cond (is t) (Ok ts) (Err (t ∷ ts))

abbrev pub onward : {T A : Type 0} → Result (List T) (List T) → (List T → Reading T A) → Reading T A
onward (Ok ts) r = r ts
onward (Err bad) r = Err bad

abbrev pub read_after : {T A : Type 0} → (T → Bool) → (List T → Reading T A) → List T → Reading T A
read_after is r ts = onward (expected is ts) r

abbrev pub in_front : {A : Type 0} → A × List A → List A
in_front q = q.0 ∷ q.1

-- as often as the next token is of the class `p`, and at most `n` times
abbrev pub repeat : {T A : Type 0} → (T → Bool) → (List T → Reading T A) → ℕ → List T → Reading T (List A)
repeat p r zero ts = Ok ([], ts)
repeat p r (suc n) ts =
    cond (begins p ts) (mapped in_front (behind (r ts) (repeat p r n))) (Ok ([], ts))

-- as often as the next token is of the class `p`
abbrev pub read_many : {T A : Type 0} → (T → Bool) → (List T → Reading T A) → List T → Reading T (List A)
read_many p r ts = repeat p r (length ts) ts

abbrev pub read_list : {T A : Type 0} → (T → Bool) → (List T → Reading T A) → List T → Reading T (List A)
read_list is r ts = mapped in_front (behind (r ts) (read_many is (read_after is r)))

-- the empty list may spell something
abbrev pub nullable : {T A : Type 0} → Grammar T A → Bool
nullable (token _ _) = false
nullable (after _ _) = false
nullable (empty _) = true
nullable (both g h) = nullable g && nullable h
nullable (to _ g) = nullable g
nullable (choice g h) = nullable g || nullable h
nullable (list _ g) = nullable g
nullable (many _) = true

-- the tokens with which a spelling may begin
abbrev pub first : {T A : Type 0} → Grammar T A → T → Bool
first (token is _) t = is t
first (after is _) t = is t
first (empty _) t = false
first (both g h) t = first g t || (nullable g && first h t)
first (to _ g) t = first g t
first (choice g h) t = first g t || first h t
first (list _ g) t = first g t
first (many g) t = first g t

-- the tokens with which a spelling may go on behind a spelling
abbrev pub goes_on : {T A : Type 0} → Grammar T A → T → Bool
goes_on (token _ _) t = false
goes_on (after _ g) t = goes_on g t
goes_on (empty _) t = false
goes_on (both g h) t = goes_on h t || (nullable h && goes_on g t)
goes_on (to _ g) t = goes_on g t
goes_on (choice g h) t = goes_on g t || goes_on h t || (nullable h && first g t)
goes_on (list is g) t = is t || goes_on g t
goes_on (many g) t = first g t || goes_on g t

-- reads the front of a list, and looks no further than at the token behind what it takes
abbrev pub read : {T A : Type 0} → Grammar T A → List T → Reading T A
read (token is value) ts = read_token is value ts
read (after is g) ts = read_after is (read g) ts
read (empty a) ts = Ok (a, ts)
read (both g h) ts = behind (read g ts) (read h)
read (to f g) ts = mapped f (read g ts)
read (choice g h) ts = cond (begins (first g) ts) (read g ts) (read h ts)
read (list is g) ts = read_list is (read g) ts
read (many g) ts = read_many (first g) (read g) ts

-- no token is of both classes
abbrev pub Apart : {T : Type 0} → (T → Bool) → (T → Bool) → Type 0
Apart {T = T} p q = (t : T) → IsTrue (p t) → IsTrue (q t) → ⊥

-- one token of the class
abbrev pub Sample : {T : Type 0} → (T → Bool) → Type 0
Sample {T = T} is = (t : T) × IsTrue (is t)

-- one token ahead decides how to go on, and each class has a token
abbrev pub Sane : {T A : Type 0} → Grammar T A → Type 0
Sane (token is _) = Sample is
Sane (after is g) = Sample is × Sane g
Sane (empty _) = Unit {0}
Sane (both g h) = Sane g × Sane h × Apart (goes_on g) (first h)
Sane (to _ g) = Sane g
Sane (choice g h) = Sane g × Sane h × Apart (first g) (first h) × (nullable g ≡ false)
Sane (list is g) = Sample is × Sane g × Apart is (goes_on g) × (nullable g ≡ false)
Sane (many g) = Sane g × Apart (first g) (goes_on g) × (nullable g ≡ false)

-- a reading that has to end where the list does
abbrev pub to_the_end : {T A : Type 0} → A → List T → Result A (List T)
to_the_end v [] = Ok v
to_the_end v (t ∷ ts) = Err (t ∷ ts)

abbrev pub ended : {T A : Type 0} → Reading T A → Result A (List T)
ended (Ok q) = to_the_end q.0 q.1
ended (Err bad) = Err bad

abbrev pub read_whole : {T A : Type 0} → Grammar T A → List T → Result A (List T)
read_whole g ts = ended (read g ts)

-- of two readings the one that succeeds, or else the refusal with fewer tokens left
abbrev pub furthest : {T A : Type 0} → Result A (List T) → Result A (List T) → Result A (List T)
furthest (Ok v) y = Ok v
furthest (Err bad) (Ok w) = Ok w
furthest (Err bad) (Err other) = Err (cond (nat_le (length bad) (length other)) bad other)

abbrev pub read_either : {T A : Type 0} → Grammar T A → Grammar T A → List T → Result A (List T)
read_either g h ts = furthest (read_whole g ts) (read_whole h ts)

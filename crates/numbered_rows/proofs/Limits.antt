-- What the limits count: the entries of the tables, each once.
use Rattle.std.proofs.Common.{◌≡◌, ◌∙◌, ◌⊎◌, ◌≤◌, refl, sym, ap, subst, ℕ, suc, zero, ◌+◌, ◌<◌, Bool, true, false, ◌==◌, ◌||◌, List, [], ◌∷◌, ◌++◌, Option, None, Some, MatchBool, nat_lt, length, map, get_or, count_by, if◌then◌else◌, inl, inr, arith}
use Rattle.std.specs.List.{All, AllPairs, list_any}
use Rattle.std.proofs.lemmas.Bool.{true≢false, and_from, and_parts, eq-eqb, eqb-true, not_from_false, not-true, or_left, or_right}
use Rattle.std.proofs.lemmas.List.{length-append, length-map}
use Rattle.std.proofs.lemmas.List.Folds.{Any-from_list_any, list_any-append, list_any_at}
use Rattle.std.proofs.lemmas.List.Sums.{sum_by-cons}
use Rattle.std.proofs.lemmas.Option.{same_Some}
use Rattle.acl_names.proofs.SameAuth.{equal_from_same_auth, equal_from_text_eq, same_auth_itself, text_eq_itself}
use Rattle.acl_names.specs.AuthId.{same_auth}
use Rattle.acl_names.specs.Text.{text_eq}
use Rattle.acl_names.specs.declared.auth.AuthId.{AuthId}
use Rattle.account_holdings.specs.Bits.{has_bit}
use Rattle.account_holdings.specs.Holdings.{Holdings, holds}
use Rattle.account_holdings.specs.declared.holding.Holding.{Holding}
use Rattle.account_holdings.specs.declared.holding.Holding.TheVariants as held
use Rattle.acl_model.proofs.SameRows.{equal_from_same_row, same_row_from_equal, same_row_itself}
use Rattle.acl_model.specs.Counts.{HasMoreThan, IsEdgeInUse, IsObjectInUse, IsPairInUse, IsSchemaInUse, ListsEachOnce, same_pair}
use Rattle.acl_model.specs.Rows.{same_row}
use Rattle.acl_model.specs.declared.row.Row.{Row}
use Rattle.acl_model.specs.declared.row.Row.TheVariants.{Table, Column, Function, Procedure, Edge, Default}
use Rattle.held_bits.proofs.Readings.{bits_of_entry, entry_of_bits}
use Rattle.held_bits.specs.Bits.{are_none}
use Rattle.held_bits.specs.HeldBits.{Entry, IsSound, bits_at, is_entry, is_on, thing_count}
use Rattle.numbered_names.specs.Numbered.{HasEachOnce, name_at}
use Rattle.numbered_rows.specs.Numbering.{holds_some, number_of, one_number, two_numbers}
use Rattle.numbered_rows.specs.Tables.{IsNumberedWell, Tables, has_row, state_of}
use Rattle.numbered_rows.proofs.Counting.{is_over_limit}
use Rattle.numbered_rows.proofs.Entries.{any_mapped, any_things, decides, differ_appended, differ_mapped, keys_once, things_in, things_length, things_once}
use Rattle.numbered_rows.proofs.Matching.{name_of, name_or_root, object_row}
use Rattle.numbered_rows.proofs.Numbers.{Names, named_at, number_is}
use Rattle.numbered_rows.proofs.SomeBits.{some_bit, some_from_granted, some_from_restricted}
use Rattle.numbered_rows.proofs.Standing.{held_stand, row_stands}
use Rattle.priv_sets.proofs.Bits.{zero_bits}
use Rattle.object_bits.proofs.SameObjects.{equal_from_same_object, same_object_itself}
use Rattle.object_bits.specs.Objects.{same_object}
use Rattle.role_graph.specs.Edges.{is_link}
use Rattle.role_graph.specs.declared.link.Link.{Link}
use Rattle.object_bits.specs.declared.object.Object.{Object}
use Rattle.object_bits.specs.declared.object.Object.TheVariants as object

-- a row with one account stands where it is held under the number of the account
one_held : (holdings : Holdings) (holding : ℕ → Holding) (o : Option ℕ) → holds_some holdings (one_number holding o) ≡ true → (n : ℕ) × (o ≡ Some n) × (holds holdings (holding n) ≡ true)
one_held holdings holding None stands = cc
one_held holdings holding (Some n) stands = (n, refl, stands)

two_held : (holdings : Holdings) (holding : ℕ → ℕ → Holding) (o u : Option ℕ) → holds_some holdings (two_numbers holding o u) ≡ true
    → (m : ℕ) × (n : ℕ) × (o ≡ Some m) × (u ≡ Some n) × (holds holdings (holding m n) ≡ true)
two_held holdings holding None u stands = cc
two_held holdings holding (Some m) None stands = cc
two_held holdings holding (Some m) (Some n) stands = (m, n, refl, refl, stands)

abbrev one_if : Bool → ℕ
one_if t = if t then 1 else 0

counts : {X : Type 0} (p : X → Bool) (x : X) → p x ≡ true → one_if (p x) ≡ 1
counts p x is = ap one_if is

-- what passes at two places counts twice
counted_once : {X : Type 0} (p : X → Bool) (xs : List X) (i : ℕ) (d : X) → i < length xs → p (get_or xs i d) ≡ true → 1 ≤ count_by p xs
counted_once p [] i d inside is = absurd (omega arith)
counted_once p (x ∷ xs) zero d inside is = omega (arith, sum_by-cons (λ y. one_if (p y)) x xs, counts p x is)
counted_once p (x ∷ xs) (suc i) d inside is = omega (arith, sum_by-cons (λ y. one_if (p y)) x xs, counted_once p xs i d (omega arith) is)

counted_twice : {X : Type 0} (p : X → Bool) (xs : List X) (i j : ℕ) (d : X) → i < j → j < length xs → p (get_or xs i d) ≡ true → p (get_or xs j d) ≡ true → 2 ≤ count_by p xs
counted_twice p [] i j d before inside one other = absurd (omega arith)
counted_twice p (x ∷ xs) zero zero d before inside one other = absurd (omega arith)
counted_twice p (x ∷ xs) zero (suc j) d before inside one other =
    omega (arith, sum_by-cons (λ y. one_if (p y)) x xs, counts p x one, counted_once p xs j d (omega arith) other)
counted_twice p (x ∷ xs) (suc i) zero d before inside one other = absurd (omega arith)
counted_twice p (x ∷ xs) (suc i) (suc j) d before inside one other =
    omega (arith, sum_by-cons (λ y. one_if (p y)) x xs, counted_twice p xs i j d (omega arith) (omega arith) one other)

module _ (tables : Tables) (once : HasEachOnce same_auth tables.accounts.names) (well : IsNumberedWell tables.accounts.names tables.holdings) where
  abbrev names : Names
  names = tables.accounts.names

  abbrev naming : ℕ → AuthId
  naming n = name_of names n

  named_so : (a : AuthId) (n : ℕ) → number_of names a ≡ Some n → naming n ≡ a
  named_so a n found = ap name_or_root (named_at names a n found)

  -- ---- schemas

  module _ (sound : IsSound text_eq tables.holdings.schemas.entries) where
    abbrev schemas : List (Entry (List ℕ))
    schemas = tables.holdings.schemas.entries

    -- an entry has a privilege or a restriction, which stands
    entry_stands : (i : ℕ) (d : Entry (List ℕ)) → i < length schemas → (p : ℕ)
        × ((holds tables.holdings (held.OnSchema (get_or schemas i d).holder (get_or schemas i d).thing p) ≡ true) ⊎ (holds tables.holdings (held.Restricted (get_or schemas i d).holder (get_or schemas i d).thing p) ≡ true))
    entry_stands i d inside =
        let e = get_or schemas i d in
        let reads = bits_of_entry text_eq (decides text_eq equal_from_text_eq text_eq_itself) schemas sound i d inside in
        let bit = some_bit e.bits (sound.within i d inside).1 (sound.some i d inside) in (
          bit.0,
          elim bit.1 [
            | inl granted ↦ inl (ap (λ b. has_bit b.granted bit.0) reads ∙ granted)
            | inr kept ↦ inr (ap (λ b. has_bit b.restricted bit.0) reads ∙ kept)
          ],
        )

    holder_stands : (i : ℕ) (d : Entry (List ℕ)) → i < length schemas → (b : AuthId) × (name_at names (get_or schemas i d).holder ≡ Some b)
    holder_stands i d inside =
        let e = get_or schemas i d in
        let found = entry_stands i d inside in
        elim found.1 [
          | inl granted ↦ held_stand tables once well (held.OnSchema e.holder e.thing found.0) granted e.holder (eq-eqb e.holder e.holder refl)
          | inr kept ↦ held_stand tables once well (held.Restricted e.holder e.thing found.0) kept e.holder (eq-eqb e.holder e.holder refl)
        ]

    -- the rows of an entry
    entry_rows : (i : ℕ) (d : Entry (List ℕ)) → i < length schemas → IsPairInUse (state_of tables) (naming (get_or schemas i d).holder, (get_or schemas i d).thing)
    unfolding state_of
    entry_rows i d inside =
        let e = get_or schemas i d in
        let found = entry_stands i d inside in (
          found.0,
          elim found.1 [
            | inl granted ↦ inl (row_stands tables once well (held.OnSchema e.holder e.thing found.0) granted)
            | inr kept ↦ inr (row_stands tables once well (held.Restricted e.holder e.thing found.0) kept)
          ],
        )

    -- and the entry of a row
    row_entry : (a : AuthId) (s : List ℕ) → IsPairInUse (state_of tables) (a, s) → (n : ℕ) × (number_of names a ≡ Some n) × (are_none (bits_at text_eq schemas n s) ≡ false)
    unfolding state_of
    row_entry a s used =
        elim used.1 [
          | inl granted ↦
              let found = one_held tables.holdings (λ n. held.OnSchema n s used.0) (number_of names a) granted in
              (found.0, found.1, some_from_granted (bits_at text_eq schemas found.0 s) used.0 found.2)
          | inr kept ↦
              let found = one_held tables.holdings (λ n. held.Restricted n s used.0) (number_of names a) kept in
              (found.0, found.1, some_from_restricted (bits_at text_eq schemas found.0 s) used.0 found.2)
        ]

    abbrev pair_of : Entry (List ℕ) → AuthId × List ℕ
    pair_of e = (naming e.holder, e.thing)

    pair_parts : (a b : AuthId) (k l : List ℕ) → same_pair (a, k) (b, l) ≡ true → (a ≡ b) × (k ≡ l)
    pair_parts a b k l same = let both = and_parts (same_auth a b) (text_eq k l) same in (equal_from_same_auth a b both.0, equal_from_text_eq k l both.1)

    pair_listed : (pair : AuthId × List ℕ) → list_any (same_pair pair) (map pair_of schemas) ≡ true → IsPairInUse (state_of tables) pair
    pair_listed pair any =
        let found = Any-from_list_any (λ e. same_pair pair (pair_of e)) schemas (sym (any_mapped pair_of (same_pair pair) schemas) ∙ any) in
        let e = get_or schemas found.0 found.1 in
        let both = pair_parts pair.0 (naming e.holder) pair.1 e.thing (ap (λ x. same_pair pair (pair_of x)) found.3 ∙ found.4) in
        let equal : (naming e.holder, e.thing) ≡ pair = ap (λ a. (a, e.thing)) (sym both.0) ∙ ap (λ s. (pair.0, s)) (sym both.1) in
        subst (IsPairInUse (state_of tables)) equal (entry_rows found.0 found.1 found.2)

    listed_pair : (pair : AuthId × List ℕ) → IsPairInUse (state_of tables) pair → list_any (same_pair pair) (map pair_of schemas) ≡ true
    listed_pair pair used =
        let found = row_entry pair.0 pair.1 used in
        let entry = entry_of_bits text_eq schemas found.0 pair.1 found.2 in
        let d : Entry (List ℕ) = record { holder = 0; thing = []; bits = record { granted = 0; restricted = 0 } } in
        let e = get_or schemas entry.0 d in
        let both = and_parts (found.0 == e.holder) (text_eq pair.1 e.thing) (entry.2 d) in
        let named : same_auth pair.0 (naming e.holder) ≡ true =
        ap (same_auth pair.0) (ap naming (sym (eqb-true found.0 e.holder both.0)) ∙ named_so pair.0 found.0 found.1) ∙ same_auth_itself pair.0 in
        any_mapped pair_of (same_pair pair) schemas
        ∙ list_any_at (λ x. same_pair pair (pair_of x)) schemas entry.0 d entry.1 (and_from (same_auth pair.0 (naming e.holder)) (text_eq pair.1 e.thing) named both.1)

    pub pairs_listed : ListsEachOnce same_pair (IsPairInUse (state_of tables)) (map pair_of schemas)
    pairs_listed = record {
      once = keys_once text_eq names once schemas sound text_eq_itself holder_stands same_pair (λ a s. (a, s)) pair_parts;
      just_these = λ pair. (pair_listed pair, listed_pair pair);
    }

    pub equal_pair : (one other : AuthId × List ℕ) → same_pair one other ≡ true → one ≡ other
    equal_pair one other same = let both = pair_parts one.0 other.0 one.1 other.1 same in ap (λ a. (a, one.1)) both.0 ∙ ap (λ s. (other.0, s)) both.1

    pub pair_itself : (pair : AuthId × List ℕ) → same_pair pair pair ≡ true
    pair_itself pair = and_from (same_auth pair.0 pair.0) (text_eq pair.1 pair.1) (same_auth_itself pair.0) (text_eq_itself pair.1)

    pub over_pairs : (limit n : ℕ) → n ≡ length schemas → MatchBool (nat_lt limit n) (HasMoreThan same_pair (IsPairInUse (state_of tables)) limit) (HasMoreThan same_pair (IsPairInUse (state_of tables)) limit → ⊥)
    over_pairs limit n is =
        is_over_limit same_pair equal_pair pair_itself
        (IsPairInUse (state_of tables)) (map pair_of schemas) pairs_listed limit (nat_lt limit n) (ap (nat_lt limit) (length-map schemas pair_of ∙ sym is))

    -- each schema once
    schema_listed : (s : List ℕ) → list_any (text_eq s) (things_in text_eq equal_from_text_eq text_eq_itself schemas) ≡ true → IsSchemaInUse (state_of tables) s
    schema_listed s any =
        let found = Any-from_list_any (is_on text_eq s) schemas (sym (any_things text_eq equal_from_text_eq text_eq_itself schemas s) ∙ any) in
        let e = get_or schemas found.0 found.1 in
        let equal : e.thing ≡ s = sym (equal_from_text_eq s e.thing (ap (is_on text_eq s) found.3 ∙ found.4)) in
        let used : IsPairInUse (state_of tables) (naming e.holder, s) = subst (λ t. IsPairInUse (state_of tables) (naming e.holder, t)) equal (entry_rows found.0 found.1 found.2) in
        (naming e.holder, used)

    listed_schema : (s : List ℕ) → IsSchemaInUse (state_of tables) s → list_any (text_eq s) (things_in text_eq equal_from_text_eq text_eq_itself schemas) ≡ true
    listed_schema s used =
        let found = row_entry used.0 s used.1 in
        let entry = entry_of_bits text_eq schemas found.0 s found.2 in
        let d : Entry (List ℕ) = record { holder = 0; thing = []; bits = record { granted = 0; restricted = 0 } } in
        let e = get_or schemas entry.0 d in
        any_things text_eq equal_from_text_eq text_eq_itself schemas s
        ∙ list_any_at (is_on text_eq s) schemas entry.0 d entry.1 (and_parts (found.0 == e.holder) (text_eq s e.thing) (entry.2 d)).1

    pub schemas_listed : ListsEachOnce text_eq (IsSchemaInUse (state_of tables)) (things_in text_eq equal_from_text_eq text_eq_itself schemas)
    schemas_listed = record { once = things_once text_eq equal_from_text_eq text_eq_itself schemas; just_these = λ s. (schema_listed s, listed_schema s) }

    pub over_schemas : (limit n : ℕ) → n ≡ thing_count text_eq schemas → MatchBool (nat_lt limit n) (HasMoreThan text_eq (IsSchemaInUse (state_of tables)) limit) (HasMoreThan text_eq (IsSchemaInUse (state_of tables)) limit → ⊥)
    over_schemas limit n is =
        is_over_limit text_eq equal_from_text_eq text_eq_itself (IsSchemaInUse (state_of tables)) (things_in text_eq equal_from_text_eq text_eq_itself schemas)
        schemas_listed
        limit (nat_lt limit n) (ap (nat_lt limit) (things_length text_eq equal_from_text_eq text_eq_itself schemas ∙ sym is))

  -- ---- objects

  module _ (sound : IsSound same_object tables.holdings.objects.entries) (plain : All (λ e. e.bits.restricted ≡ 0) tables.holdings.objects.entries) where
    abbrev objects : List (Entry Object)
    objects = tables.holdings.objects.entries

    object_stands : (i : ℕ) (d : Entry Object) → i < length objects → (p : ℕ) × (holds tables.holdings (held.OnObject (get_or objects i d).holder (get_or objects i d).thing p) ≡ true)
    object_stands i d inside =
        let e = get_or objects i d in
        let reads = bits_of_entry same_object (decides same_object equal_from_same_object same_object_itself) objects sound i d inside in
        let bit = some_bit e.bits (sound.within i d inside).1 (sound.some i d inside) in (
          bit.0,
          elim bit.1 [
            | inl granted ↦ ap (λ b. has_bit b.granted bit.0) reads ∙ granted
            | inr kept ↦ absurd (true≢false (sym kept ∙ ap (λ n. has_bit n bit.0) (plain i d inside) ∙ zero_bits bit.0))
          ],
        )

    object_holder : (i : ℕ) (d : Entry Object) → i < length objects → (b : AuthId) × (name_at names (get_or objects i d).holder ≡ Some b)
    object_holder i d inside =
        let e = get_or objects i d in
        let found = object_stands i d inside in
        held_stand tables once well (held.OnObject e.holder e.thing found.0) found.1 e.holder (eq-eqb e.holder e.holder refl)

    abbrev object_key : Entry Object → Row
    object_key e = object_row (naming e.holder) e.thing 0

    in_use : (a : AuthId) (o : Object) (p : ℕ) → has_row tables (object_row a o p) ≡ true → IsObjectInUse (state_of tables) (object_row a o 0)
    unfolding state_of
    in_use a (object.Table s t) p stands = (refl, (p, stands))
    in_use a (object.Column s t c) p stands = (refl, (p, stands))
    in_use a (object.Function s f) p stands = (refl, (p, stands))
    in_use a (object.Procedure s f) p stands = (refl, (p, stands))

    object_parts : (a b : AuthId) (k l : Object) → same_row (object_row a k 0) (object_row b l 0) ≡ true → (a ≡ b) × (k ≡ l)
    object_parts a b k l same = by k l (equal_from_same_row (object_row a k 0) (object_row b l 0) same)
      where
        by : (k l : Object) → object_row a k 0 ≡ object_row b l 0 → (a ≡ b) × (k ≡ l)
        by (object.Table s t) (object.Table u v) is = (cc, cc)
        by (object.Column s t c) (object.Column u v d) is = (cc, cc)
        by (object.Function s f) (object.Function u g) is = (cc, cc)
        by (object.Procedure s f) (object.Procedure u g) is = (cc, cc)
        by _ _ is = cc

    object_listed : (row : Row) → list_any (same_row row) (map object_key objects) ≡ true → IsObjectInUse (state_of tables) row
    object_listed row any =
        let found = Any-from_list_any (λ e. same_row row (object_key e)) objects (sym (any_mapped object_key (same_row row) objects) ∙ any) in
        let e = get_or objects found.0 found.1 in
        let equal : row ≡ object_key e = equal_from_same_row row (object_key e) (ap (λ x. same_row row (object_key x)) found.3 ∙ found.4) in
        let there = object_stands found.0 found.1 found.2 in
        subst (IsObjectInUse (state_of tables)) (sym equal)
        (in_use (naming e.holder) e.thing there.0 (row_stands tables once well (held.OnObject e.holder e.thing there.0) there.1))

    found_object : (a : AuthId) (o : Object) (p : ℕ) → has_row tables (object_row a o p) ≡ true → list_any (same_row (object_row a o 0)) (map object_key objects) ≡ true
    found_object a o p stands =
        let there = reads o stands in
        let entry = entry_of_bits same_object objects there.0 o (some_from_granted (bits_at same_object objects there.0 o) p there.2) in
        let d : Entry Object = record { holder = 0; thing = object.Table [] []; bits = record { granted = 0; restricted = 0 } } in
        let e = get_or objects entry.0 d in
        let both = and_parts (there.0 == e.holder) (same_object o e.thing) (entry.2 d) in
        let named : naming e.holder ≡ a = ap naming (sym (eqb-true there.0 e.holder both.0)) ∙ named_so a there.0 there.1 in
        let equal : object_row a o 0 ≡ object_key e = ap (λ x. object_row x o 0) (sym named) ∙ ap (λ x. object_row (naming e.holder) x 0) (equal_from_same_object o e.thing both.1) in
        any_mapped object_key (same_row (object_row a o 0)) objects
        ∙ list_any_at (λ x. same_row (object_row a o 0) (object_key x)) objects entry.0 d entry.1 (same_row_from_equal (object_row a o 0) (object_key e) equal)
      where
        reads : (o : Object) → has_row tables (object_row a o p) ≡ true → (n : ℕ) × (number_of names a ≡ Some n) × (holds tables.holdings (held.OnObject n o p) ≡ true)
        reads (object.Table s t) there = one_held tables.holdings (λ n. held.OnObject n (object.Table s t) p) (number_of names a) there
        reads (object.Column s t c) there = one_held tables.holdings (λ n. held.OnObject n (object.Column s t c) p) (number_of names a) there
        reads (object.Function s f) there = one_held tables.holdings (λ n. held.OnObject n (object.Function s f) p) (number_of names a) there
        reads (object.Procedure s f) there = one_held tables.holdings (λ n. held.OnObject n (object.Procedure s f) p) (number_of names a) there

    listed_object : (row : Row) → IsObjectInUse (state_of tables) row → list_any (same_row row) (map object_key objects) ≡ true
    unfolding state_of
    listed_object (Table a s t q) used = ap (λ n. list_any (same_row (Table a s t n)) (map object_key objects)) used.0 ∙ found_object a (object.Table s t) used.1.0 used.1.1
    listed_object (Column a s t c q) used = ap (λ n. list_any (same_row (Column a s t c n)) (map object_key objects)) used.0 ∙ found_object a (object.Column s t c) used.1.0 used.1.1
    listed_object (Function a s f q) used = ap (λ n. list_any (same_row (Function a s f n)) (map object_key objects)) used.0 ∙ found_object a (object.Function s f) used.1.0 used.1.1
    listed_object (Procedure a s f q) used = ap (λ n. list_any (same_row (Procedure a s f n)) (map object_key objects)) used.0 ∙ found_object a (object.Procedure s f) used.1.0 used.1.1
    listed_object _ used = absurd used

    pub objects_listed : ListsEachOnce same_row (IsObjectInUse (state_of tables)) (map object_key objects)
    objects_listed = record { once = keys_once same_object names once objects sound same_object_itself object_holder same_row (λ a o. object_row a o 0) object_parts; just_these = λ row. (object_listed row, listed_object row) }

    pub over_objects : (limit n : ℕ) → n ≡ length objects → MatchBool (nat_lt limit n) (HasMoreThan same_row (IsObjectInUse (state_of tables)) limit) (HasMoreThan same_row (IsObjectInUse (state_of tables)) limit → ⊥)
    over_objects limit n is =
        is_over_limit same_row equal_from_same_row same_row_itself (IsObjectInUse (state_of tables)) (map object_key objects)
        objects_listed
        limit (nat_lt limit n) (ap (nat_lt limit) (length-map objects object_key ∙ sym is))

  -- ---- edges

  numbers_equal : (one other : ℕ) (b c : AuthId) → name_at names one ≡ Some b → name_at names other ≡ Some c → naming one ≡ naming other → one ≡ other
  numbers_equal one other b c first second same =
      let equal : b ≡ c = sym (ap name_or_root first) ∙ same ∙ ap name_or_root second in
      same_Some one other (sym (number_is names once b one first) ∙ number_is names once b other (second ∙ ap (λ x. Some x) (sym equal)))

  module _ (links_once : (from to : ℕ) → count_by (is_link from to) tables.holdings.roles.links ≤ 1)
      (sound : IsSound (λ one other. one == other) tables.holdings.defaults.entries) where
    abbrev links : List Link
    links = tables.holdings.roles.links

    abbrev defaults : List (Entry ℕ)
    defaults = tables.holdings.defaults.entries

    is_itself : (link : Link) → is_link link.from link.to link ≡ true
    is_itself link = and_from (link.from == link.from) (link.to == link.to) (eq-eqb link.from link.from refl) (eq-eqb link.to link.to refl)

    link_stands : (i : ℕ) (d : Link) → i < length links → holds tables.holdings (held.Edge (get_or links i d).to (get_or links i d).from) ≡ true
    link_stands i d inside = list_any_at (is_link (get_or links i d).from (get_or links i d).to) links i d inside (is_itself (get_or links i d))

    abbrev link_key : Link → Row
    link_key link = Edge (naming link.to) (naming link.from)

    links_apart : AllPairs (λ one other. same_row (link_key one) (link_key other) ≡ false) links
    links_apart i j d before inside = by (same_row (link_key (get_or links i d)) (link_key (get_or links j d))) refl
      where
        by : (t : Bool) → same_row (link_key (get_or links i d)) (link_key (get_or links j d)) ≡ t → t ≡ false
        by false is = refl
        by true is =
            let one = get_or links i d in
            let other = get_or links j d in
            let both = and_parts (same_auth (naming one.to) (naming other.to)) (same_auth (naming one.from) (naming other.from)) is in
            let first = link_stands i d (omega arith) in
            let second = link_stands j d inside in
            let one_role = held_stand tables once well (held.Edge one.to one.from) first one.to (or_left (one.to == one.to) (one.from == one.to) (eq-eqb one.to one.to refl)) in
            let other_role = held_stand tables once well (held.Edge other.to other.from) second other.to (or_left (other.to == other.to) (other.from == other.to) (eq-eqb other.to other.to refl)) in
            let one_holder = held_stand tables once well (held.Edge one.to one.from) first one.from (or_right (one.to == one.from) (one.from == one.from) (eq-eqb one.from one.from refl)) in
            let other_holder = held_stand tables once well (held.Edge other.to other.from) second other.from (or_right (other.to == other.from) (other.from == other.from) (eq-eqb other.from other.from refl)) in
            let roles : other.to ≡ one.to = sym (numbers_equal one.to other.to one_role.0 other_role.0 one_role.1 other_role.1 (equal_from_same_auth (naming one.to) (naming other.to) both.0)) in
            let holders : other.from ≡ one.from =
            sym (numbers_equal one.from other.from one_holder.0 other_holder.0 one_holder.1 other_holder.1 (equal_from_same_auth (naming one.from) (naming other.from) both.1)) in
            let again : is_link one.from one.to other ≡ true =
            and_from (other.from == one.from) (other.to == one.to) (eq-eqb other.from one.from holders) (eq-eqb other.to one.to roles) in
            let twice : 2 ≤ count_by (is_link one.from one.to) links = counted_twice (is_link one.from one.to) links i j d before inside (is_itself one) again in
            absurd (omega (arith, twice, links_once one.from one.to))

    abbrev default_key : Entry ℕ → Row
    default_key e = Default (naming e.holder) (naming e.thing)

    default_stands : (i : ℕ) (d : Entry ℕ) → i < length defaults → holds tables.holdings (held.Default (get_or defaults i d).holder (get_or defaults i d).thing) ≡ true
    default_stands i d inside =
        let e = get_or defaults i d in
        let reads = bits_of_entry (λ one other. one == other) (decides (λ one other. one == other) eqb-true (λ n. eq-eqb n n refl)) defaults sound i d inside in
        not_from_false (are_none (bits_at (λ one other. one == other) defaults e.holder e.thing)) (ap are_none reads ∙ sound.some i d inside)

    defaults_apart : AllPairs (λ one other. same_row (default_key one) (default_key other) ≡ false) defaults
    defaults_apart i j d before inside = by (same_row (default_key (get_or defaults i d)) (default_key (get_or defaults j d))) refl
      where
        by : (t : Bool) → same_row (default_key (get_or defaults i d)) (default_key (get_or defaults j d)) ≡ t → t ≡ false
        by false is = refl
        by true is =
            let one = get_or defaults i d in
            let other = get_or defaults j d in
            let both = and_parts (same_auth (naming one.holder) (naming other.holder)) (same_auth (naming one.thing) (naming other.thing)) is in
            let first = default_stands i d (omega arith) in
            let second = default_stands j d inside in
            let one_holder = held_stand tables once well (held.Default one.holder one.thing) first one.holder (or_left (one.holder == one.holder) (one.thing == one.holder) (eq-eqb one.holder one.holder refl)) in
            let other_holder = held_stand tables once well (held.Default other.holder other.thing) second other.holder (or_left (other.holder == other.holder) (other.thing == other.holder) (eq-eqb other.holder other.holder refl)) in
            let one_role = held_stand tables once well (held.Default one.holder one.thing) first one.thing (or_right (one.holder == one.thing) (one.thing == one.thing) (eq-eqb one.thing one.thing refl)) in
            let other_role = held_stand tables once well (held.Default other.holder other.thing) second other.thing (or_right (other.holder == other.thing) (other.thing == other.thing) (eq-eqb other.thing other.thing refl)) in
            let holders : one.holder ≡ other.holder =
            numbers_equal one.holder other.holder one_holder.0 other_holder.0 one_holder.1 other_holder.1 (equal_from_same_auth (naming one.holder) (naming other.holder) both.0) in
            let roles : one.thing ≡ other.thing =
            numbers_equal one.thing other.thing one_role.0 other_role.0 one_role.1 other_role.1 (equal_from_same_auth (naming one.thing) (naming other.thing) both.1) in
            let entry : is_entry (λ one other. one == other) one.holder one.thing other ≡ true =
            and_from (one.holder == other.holder) (one.thing == other.thing) (eq-eqb one.holder other.holder holders) (eq-eqb one.thing other.thing roles) in
            absurd (true≢false (sym entry ∙ sound.once i j d before inside))

    abbrev edge_rows : List Row
    edge_rows = map link_key links ++ map default_key defaults

    any_edge : (row : Row) → list_any (same_row row) edge_rows ≡ (list_any (λ link. same_row row (link_key link)) links || list_any (λ e. same_row row (default_key e)) defaults)
    any_edge row =
        list_any-append (same_row row) (map link_key links) (map default_key defaults)
        ∙ ap (λ b. b || list_any (same_row row) (map default_key defaults)) (any_mapped link_key (same_row row) links)
        ∙ ap (λ b. list_any (λ link. same_row row (link_key link)) links || b) (any_mapped default_key (same_row row) defaults)

    no_default : (row : Row) → list_any (same_row row) (map link_key links) ≡ true → list_any (same_row row) (map default_key defaults) ≡ false
    no_default row any =
        let found = Any-from_list_any (λ link. same_row row (link_key link)) links (sym (any_mapped link_key (same_row row) links) ∙ any) in
        let equal : row ≡ link_key found.1 = equal_from_same_row row (link_key found.1) found.4 in
        ap (λ r. list_any (same_row r) (map default_key defaults)) equal ∙ never (naming found.1.to) (naming found.1.from) defaults
      where
        never : (role to : AuthId) (es : List (Entry ℕ)) → list_any (same_row (Edge role to)) (map default_key es) ≡ false
        never role to [] = refl
        never role to (e ∷ es) = never role to es

    edge_listed : (row : Row) → list_any (same_row row) edge_rows ≡ true → IsEdgeInUse (state_of tables) row
    unfolding state_of
    edge_listed row any = by (list_any (λ link. same_row row (link_key link)) links) refl (sym (any_edge row) ∙ any)
      where
        by : (t : Bool) → list_any (λ link. same_row row (link_key link)) links ≡ t → (t || list_any (λ e. same_row row (default_key e)) defaults) ≡ true → IsEdgeInUse (state_of tables) row
        by true is rest =
            let found = Any-from_list_any (λ link. same_row row (link_key link)) links is in
            let equal : link_key (get_or links found.0 found.1) ≡ row = ap link_key found.3 ∙ sym (equal_from_same_row row (link_key found.1) found.4) in
            subst (IsEdgeInUse (state_of tables)) equal
            (row_stands tables once well (held.Edge (get_or links found.0 found.1).to (get_or links found.0 found.1).from) (link_stands found.0 found.1 found.2))
        by false is rest =
            let found = Any-from_list_any (λ e. same_row row (default_key e)) defaults rest in
            let equal : default_key (get_or defaults found.0 found.1) ≡ row = ap default_key found.3 ∙ sym (equal_from_same_row row (default_key found.1) found.4) in
            subst (IsEdgeInUse (state_of tables)) equal
            (row_stands tables once well (held.Default (get_or defaults found.0 found.1).holder (get_or defaults found.0 found.1).thing) (default_stands found.0 found.1 found.2))

    listed_edge : (row : Row) → IsEdgeInUse (state_of tables) row → list_any (same_row row) edge_rows ≡ true
    unfolding state_of
    listed_edge (Edge role to) used =
        let there = two_held tables.holdings held.Edge (number_of names role) (number_of names to) used in
        let found = Any-from_list_any (is_link there.1 there.0) links there.4 in
        let both = and_parts (found.1.from == there.1) (found.1.to == there.0) found.4 in
        let roles : naming found.1.to ≡ role = ap naming (eqb-true found.1.to there.0 both.1) ∙ named_so role there.0 there.2 in
        let holders : naming found.1.from ≡ to = ap naming (eqb-true found.1.from there.1 both.0) ∙ named_so to there.1 there.3 in
        let equal : Edge role to ≡ link_key (get_or links found.0 found.1) =
        ap (λ r. Edge r to) (sym roles) ∙ ap (Edge (naming found.1.to)) (sym holders) ∙ sym (ap link_key found.3) in
        any_edge (Edge role to)
        ∙ or_left (list_any (λ link. same_row (Edge role to) (link_key link)) links) (list_any (λ e. same_row (Edge role to) (default_key e)) defaults)
        (list_any_at (λ link. same_row (Edge role to) (link_key link)) links found.0 found.1 found.2 (same_row_from_equal (Edge role to) (link_key (get_or links found.0 found.1)) equal))
    listed_edge (Default of role) used =
        let there = two_held tables.holdings held.Default (number_of names of) (number_of names role) used in
        let some = not-true (are_none (bits_at (λ one other. one == other) defaults there.0 there.1)) there.4 in
        let entry = entry_of_bits (λ one other. one == other) defaults there.0 there.1 some in
        let d : Entry ℕ = record { holder = 0; thing = 0; bits = record { granted = 0; restricted = 0 } } in
        let e = get_or defaults entry.0 d in
        let both = and_parts (there.0 == e.holder) (there.1 == e.thing) (entry.2 d) in
        let holders : naming e.holder ≡ of = ap naming (sym (eqb-true there.0 e.holder both.0)) ∙ named_so of there.0 there.2 in
        let roles : naming e.thing ≡ role = ap naming (sym (eqb-true there.1 e.thing both.1)) ∙ named_so role there.1 there.3 in
        let equal : Default of role ≡ default_key e = ap (λ a. Default a role) (sym holders) ∙ ap (Default (naming e.holder)) (sym roles) in
        any_edge (Default of role)
        ∙ or_right (list_any (λ link. same_row (Default of role) (link_key link)) links) (list_any (λ e. same_row (Default of role) (default_key e)) defaults)
        (list_any_at (λ e. same_row (Default of role) (default_key e)) defaults entry.0 d entry.1 (same_row_from_equal (Default of role) (default_key e) equal))
    listed_edge _ used = absurd used

    pub edges_listed : ListsEachOnce same_row (IsEdgeInUse (state_of tables)) edge_rows
    edges_listed = record {
      once = differ_appended same_row (map link_key links) (map default_key defaults) (differ_mapped link_key same_row links links_apart) (differ_mapped default_key same_row defaults defaults_apart) no_default same_row_itself;
      just_these = λ row. (edge_listed row, listed_edge row);
    }

    pub over_edges : (limit n : ℕ) → n ≡ length links + length defaults → MatchBool (nat_lt limit n) (HasMoreThan same_row (IsEdgeInUse (state_of tables)) limit) (HasMoreThan same_row (IsEdgeInUse (state_of tables)) limit → ⊥)
    over_edges limit n is =
        let counted : length edge_rows ≡ n = omega (arith, length-append (map link_key links) (map default_key defaults), length-map links link_key, length-map defaults default_key, is) in
        is_over_limit same_row equal_from_same_row same_row_itself (IsEdgeInUse (state_of tables)) edge_rows
        edges_listed
        limit (nat_lt limit n) (ap (nat_lt limit) counted)

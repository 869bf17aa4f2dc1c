-- Renaming, pair by pair.
use Rattle.std.proofs.Common.{◌≡◌, ◌∙◌, ap, sym, subst, ℕ, suc, ◌<◌, ◌+◌, Bool, true, false, cond, not, ◌&&◌, ◌||◌, List, [], ◌∷◌, ◌++◌, Option, Some, None, is_some, length, length-append, get_or, take, drop, map, reverse, min, refl, add-one, arith, ◌≤◌, inl, inr, IsTrue}
use Rattle.std.proofs.Math.Bool.{and-true}
use Rattle.std.proofs.Math.Seq.{drop-cons}
use Rattle.std.proofs.lemmas.Bool.{and_parts, cases_lt, true≢false}
use Rattle.std.proofs.lemmas.List.{get_or_default, reverse-append, reverse-reverse, take_more}
use Rattle.std.specs.List.{find}
use Rattle.std.specs.Option.{option_and_then, option_map, option_or}
use Rattle.acl_names.proofs.SameAuth.{equal_from_same_auth, same_auth_itself}
use Rattle.acl_names.specs.AuthId.{same_auth}
use Rattle.acl_names.specs.declared.auth.AuthId.{AuthId}
use Rattle.acl_model.specs.Accounts.{data_of_old}
use Rattle.acl_model.specs.Effects.{becomes, changed}
use Rattle.acl_model.specs.Refusals.{first_fault, no_renaming}
use Rattle.acl_model.specs.Renames.{before_pair, name_before, one_name, row_before, then_before, two_names}
use Rattle.acl_model.specs.State.{State, is_mandatory, stands}
use Rattle.acl_model.specs.declared.row.Row.{Row}
use Rattle.acl_model.specs.declared.row.Row.TheVariants.{Account, Global, Dynamic, DynamicGrant, Schema, Table, Column, Function, Procedure, Edge, Admin, Default, Restriction}
use Rattle.row_tables.proofs.States.{same_auth_back, same_state}
use Rattle.row_tables.specs.Changes.{renamed}
use Rattle.row_tables.specs.Conditions.{names_stand}
use Rattle.row_tables.specs.Tables.{Tables, state_of}
use Rattle.numbered_rows.specs.Numbering.{number_of}
use Rattle.numbered_rows.specs.Tables.{known_at}
use Rattle.acl_stmt.specs.declared.refusal.Refusal.{Refusal}
use Rattle.acl_stmt.specs.declared.refusal.Refusal.TheVariants.{AccountExists, Mandatory, NoMemory, NoSuchAccount, NoSuchGrant}
use Rattle.row_tables.specs.Rooms.{LosesAtMost}
use Rattle.row_tables.specs.declared.room.Room.{Room}
use Rattle.account_edits.specs.Causes.{IsFaultOrLimit, IsWantOrFault}
use Rattle.acl_stmt.specs.declared.statement.Statement.TheVariants.{RenameUser}
use Rattle.account_edits.specs.Renamed.{AreLegal, HaveBeenRenamed, MayBeRenamed, pair_fault, renamed_in}

abbrev Pairs : Type 0
Pairs = List (AuthId × AuthId)

kept_row : (pairs : Pairs) (s : State) (row : Row) (stood : Bool) → becomes [] (RenameUser pairs) s row stood ≡ stood
unfolding becomes
kept_row pairs s (Account a) stood = and-true stood
kept_row pairs s _ stood = and-true stood

some_itself : {A : Type 0} (o : Option A) → option_and_then (λ x. Some x) o ≡ o
some_itself None = refl
some_itself (Some x) = refl

through : (old new : AuthId) (f : AuthId → Option AuthId) (o : Option AuthId) → then_before old new (option_and_then f o) ≡ option_and_then (λ x. then_before old new (f x)) o
through old new f None = refl
through old new f (Some x) = refl

name_before-append : (pairs : Pairs) (pair : AuthId × AuthId) (a : AuthId)
    → name_before (pairs ++ pair ∷ []) a ≡ option_and_then (name_before pairs) (before_pair pair.0 pair.1 a)
name_before-append [] pair a = sym (some_itself (before_pair pair.0 pair.1 a))
name_before-append (first ∷ pairs) pair a =
    ap (then_before first.0 first.1) (name_before-append pairs pair a) ∙ through first.0 first.1 (name_before pairs) (before_pair pair.0 pair.1 a)

one_through : (row : AuthId → Row) (f : AuthId → Option AuthId) (g : Row → Option Row) → ((x : AuthId) → one_name row (f x) ≡ g (row x)) → (o : Option AuthId)
    → one_name row (option_and_then f o) ≡ option_and_then g (one_name row o)
one_through row f g alike None = refl
one_through row f g alike (Some x) = alike x

none_second : (row : AuthId → AuthId → Row) (o : Option AuthId) → two_names row o None ≡ None
none_second row None = refl
none_second row (Some x) = refl

two_through : (row : AuthId → AuthId → Row) (f : AuthId → Option AuthId) (g : Row → Option Row) → ((x y : AuthId) → two_names row (f x) (f y) ≡ g (row x y)) → (o u : Option AuthId)
    → two_names row (option_and_then f o) (option_and_then f u) ≡ option_and_then g (two_names row o u)
two_through row f g alike None u = refl
two_through row f g alike (Some x) None = none_second row (f x)
two_through row f g alike (Some x) (Some y) = alike x y

module _ (pairs : Pairs) (pair : AuthId × AuthId) where
  one_append : (row : AuthId → Row) → ((x : AuthId) → one_name row (name_before pairs x) ≡ row_before pairs (row x)) → (a : AuthId)
      → one_name row (name_before (pairs ++ pair ∷ []) a) ≡ option_and_then (row_before pairs) (one_name row (before_pair pair.0 pair.1 a))
  one_append row alike a = ap (one_name row) (name_before-append pairs pair a) ∙ one_through row (name_before pairs) (row_before pairs) alike (before_pair pair.0 pair.1 a)

  two_append : (row : AuthId → AuthId → Row) → ((x y : AuthId) → two_names row (name_before pairs x) (name_before pairs y) ≡ row_before pairs (row x y)) → (a b : AuthId)
      → two_names row (name_before (pairs ++ pair ∷ []) a) (name_before (pairs ++ pair ∷ []) b) ≡ option_and_then (row_before pairs) (two_names row (before_pair pair.0 pair.1 a) (before_pair pair.0 pair.1 b))
  two_append row alike a b =
      ap (λ o. two_names row o (name_before (pairs ++ pair ∷ []) b)) (name_before-append pairs pair a)
      ∙ ap (two_names row (option_and_then (name_before pairs) (before_pair pair.0 pair.1 a))) (name_before-append pairs pair b)
      ∙ two_through row (name_before pairs) (row_before pairs) alike (before_pair pair.0 pair.1 a) (before_pair pair.0 pair.1 b)

  row_before-append : (row : Row) → row_before (pairs ++ pair ∷ []) row ≡ option_and_then (row_before pairs) (row_before (pair ∷ []) row)
  row_before-append (Account a) = one_append Account (λ x. refl) a
  row_before-append (Global a p) = one_append (λ x. Global x p) (λ x. refl) a
  row_before-append (Dynamic a d) = one_append (λ x. Dynamic x d) (λ x. refl) a
  row_before-append (DynamicGrant a d) = one_append (λ x. DynamicGrant x d) (λ x. refl) a
  row_before-append (Schema a s p) = one_append (λ x. Schema x s p) (λ x. refl) a
  row_before-append (Table a s t p) = one_append (λ x. Table x s t p) (λ x. refl) a
  row_before-append (Column a s t c p) = one_append (λ x. Column x s t c p) (λ x. refl) a
  row_before-append (Function a s f p) = one_append (λ x. Function x s f p) (λ x. refl) a
  row_before-append (Procedure a s f p) = one_append (λ x. Procedure x s f p) (λ x. refl) a
  row_before-append (Edge r a) = two_append Edge (λ x y. refl) r a
  row_before-append (Admin r a) = two_append Admin (λ x y. refl) r a
  row_before-append (Default a r) = two_append Default (λ x y. refl) a r
  row_before-append (Restriction a p s) = one_append (λ x. Restriction x p s) (λ x. refl) a

row_before-none : (row : Row) → row_before [] row ≡ Some row
row_before-none (Account a) = refl
row_before-none _ = refl

abbrev was_row : State → Option Row → Bool
was_row s None = false
was_row s (Some row) = s.rows row

-- no pair
pub renamed_none : (s : State) → s ≡ changed [] (RenameUser []) s
unfolding changed
renamed_none s = same_state _ _ (λ row. sym (kept_row [] s row _ ∙ ap (was_row s) (row_before-none row))) (λ a. refl) refl refl

known_more : (s : State) (pairs : Pairs) (o : Option AuthId) → data_of_old (changed [] (RenameUser pairs) s) o ≡ data_of_old s (option_and_then (name_before pairs) o)
unfolding changed
known_more s pairs None = refl
known_more s pairs (Some a) = refl

was_more : (s : State) (pairs : Pairs) (o : Option Row) → was_row (changed [] (RenameUser pairs) s) o ≡ was_row s (option_and_then (row_before pairs) o)
unfolding changed
was_more s pairs None = refl
was_more s pairs (Some row) = kept_row pairs s row _

-- one pair more
pub renamed_more : (s : State) (pairs : Pairs) (pair : AuthId × AuthId) → renamed pair.0 pair.1 (changed [] (RenameUser pairs) s) ≡ changed [] (RenameUser (pairs ++ pair ∷ [])) s
unfolding changed renamed
renamed_more s pairs pair = same_state _ _
    (λ row. was_more s pairs (row_before (pair ∷ []) row) ∙ ap (was_row s) (sym (row_before-append pairs pair row)) ∙ sym (kept_row (pairs ++ pair ∷ []) s row _))
    (λ a. known_more s pairs (before_pair pair.0 pair.1 a) ∙ ap (data_of_old s) (sym (name_before-append pairs pair a))) refl refl

there_by : (s : State) (old new a : AuthId) → stands s old ≡ true → (u v : Bool)
    → was_row s (one_name Account (cond u (Some old) (cond v None (Some a)))) ≡ (u || (not v && stands s a))
there_by s old new a stood true v = stood
there_by s old new a stood false true = refl
there_by s old new a stood false false = refl

-- who is there after one pair
there_next : (s : State) (old new : AuthId) → stands s old ≡ true → stands (renamed old new s) ≡ (λ other. same_auth other new || (not (same_auth other old) && stands s other))
unfolding renamed
there_next s old new stood = λ i a. there_by s old new a stood (same_auth a new) (same_auth a old) i

pair_none : (there : AuthId → Bool) (old new : AuthId) (t u : Bool) → cond t (cond u (Some (AccountExists new)) None) (Some (NoSuchAccount old)) ≡ None → (t ≡ true) × (u ≡ false)
pair_none there old new true true none = cc
pair_none there old new true false none = (refl, refl)
pair_none there old new false u none = cc

renaming_next : (s : State) (pair : AuthId × AuthId) (rest : Pairs) → pair_fault (stands s) pair.0 pair.1 ≡ None
    → no_renaming (stands s) (pair ∷ rest) ≡ no_renaming (stands (renamed pair.0 pair.1 s)) rest
renaming_next s pair rest none =
    let parts = pair_none (stands s) pair.0 pair.1 (stands s pair.0) (stands s pair.1) none in
    ap (λ t. cond t (cond (stands s pair.1) (Some (AccountExists pair.1)) (no_renaming (λ other. same_auth other pair.1 || (not (same_auth other pair.0) && stands s other)) rest)) (Some (NoSuchAccount pair.0))) parts.0
    ∙ ap (λ t. cond t (Some (AccountExists pair.1)) (no_renaming (λ other. same_auth other pair.1 || (not (same_auth other pair.0) && stands s other)) rest)) parts.1
    ∙ ap (λ there. no_renaming there rest) (sym (there_next s pair.0 pair.1 parts.0))

first_by : (there : AuthId → Bool) (old new : AuthId) (o : Option Refusal) (e : Refusal) (t u : Bool) → cond t (cond u (Some (AccountExists new)) None) (Some (NoSuchAccount old)) ≡ Some e
    → cond t (cond u (Some (AccountExists new)) o) (Some (NoSuchAccount old)) ≡ Some e
first_by there old new o e true true is = is
first_by there old new o e true false is = cc
first_by there old new o e false u is = is

pub dropped : {X : Type 0} (xs : List X) (i : ℕ) (x : X) → i < length xs → x ≡ get_or xs i x → drop i xs ≡ x ∷ drop (i + 1) xs
dropped xs i x within is = rw add-one (drop-cons xs i x within ∙ ap (λ y. y ∷ drop (suc i) xs) (sym is))

pub taken : {X : Type 0} (xs : List X) (i : ℕ) (x : X) → i < length xs → x ≡ get_or xs i x → take (i + 1) xs ≡ take i xs ++ x ∷ []
taken xs i x within is = take_more xs i x within ∙ ap (λ y. take i xs ++ y ∷ []) (sym is)

-- one pair more is carried out
pub renames_step : (s cur new : State) (pairs : Pairs) (i : ℕ) (x : AuthId × AuthId) → i < length pairs → x ≡ get_or pairs i x → new ≡ renamed x.0 x.1 cur → pair_fault (stands cur) x.0 x.1 ≡ None
    → (cur ≡ changed [] (RenameUser (take i pairs)) s) × (no_renaming (stands s) pairs ≡ no_renaming (stands cur) (drop i pairs))
    → (new ≡ changed [] (RenameUser (take (i + 1) pairs)) s) × (no_renaming (stands s) pairs ≡ no_renaming (stands new) (drop (i + 1) pairs))
renames_step s cur new pairs i x within is ok none inv = (
  ok ∙ ap (renamed x.0 x.1) inv.0 ∙ renamed_more s (take i pairs) x ∙ ap (λ ps. changed [] (RenameUser ps) s) (sym (taken pairs i x within is)),
  inv.1 ∙ ap (no_renaming (stands cur)) (dropped pairs i x within is) ∙ renaming_next cur x (drop (i + 1) pairs) none ∙ ap (λ st. no_renaming (stands st) (drop (i + 1) pairs)) (sym ok),
)

-- a pair that is refused refuses the statement
pub renames_fault : (s cur : State) (pairs : Pairs) (i : ℕ) (x : AuthId × AuthId) → i < length pairs → x ≡ get_or pairs i x → no_renaming (stands s) pairs ≡ no_renaming (stands cur) (drop i pairs)
    → (e : Refusal) → pair_fault (stands cur) x.0 x.1 ≡ Some e → first_fault s (RenameUser pairs) ≡ Some e
unfolding first_fault
renames_fault s cur pairs i x within is inv e fault =
    let first : no_renaming (stands s) pairs ≡ Some e =
    inv ∙ ap (no_renaming (stands cur)) (dropped pairs i x within is)
    ∙ first_by (stands cur) x.0 x.1 (no_renaming (λ other. same_auth other x.1 || (not (same_auth other x.0) && stands cur other)) (drop (i + 1) pairs)) e (stands cur x.0) (stands cur x.1) fault in
    rw first refl

find-map : {X Y : Type 0} (p : Y → Bool) (f : X → Y) (xs : List X) → find p (map f xs) ≡ option_map f (find (λ x. p (f x)) xs)
find-map p f [] = refl
find-map p f (x ∷ xs) = at (p (f x)) (find-map p f xs)
  where
    at : (t : Bool) → find p (map f xs) ≡ option_map f (find (λ x. p (f x)) xs) → cond t (Some (f x)) (find p (map f xs)) ≡ option_map f (cond t (Some x) (find (λ x. p (f x)) xs))
    at true rest = refl
    at false rest = rest

dropped_all : {X : Type 0} (xs : List X) → drop (length xs) xs ≡ []
dropped_all [] = refl
dropped_all (x ∷ xs) = dropped_all xs

-- at the end, a mandatory old name is the only fault left
pub renames_end : (s cur : State) (pairs : Pairs) (i : ℕ) → i ≡ length pairs → no_renaming (stands s) pairs ≡ no_renaming (stands cur) (drop i pairs)
    → first_fault s (RenameUser pairs) ≡ option_map (λ a. Mandatory a) (option_map (λ pair. pair.0) (find (λ pair. is_mandatory s pair.0) pairs))
unfolding first_fault
renames_end s cur pairs i all inv =
    let none : no_renaming (stands s) pairs ≡ None = inv ∙ ap (no_renaming (stands cur)) (ap (λ n. drop n pairs) all ∙ dropped_all pairs) in
    rw none (ap (option_map (λ a. Mandatory a)) (find-map (is_mandatory s) (λ (pair : AuthId × AuthId). pair.0) pairs))

-- ---- the last pair first

renamed_last : (pairs : Pairs) (pair : AuthId × AuthId) (s : State) → renamed_in (pairs ++ pair ∷ []) s ≡ renamed_in pairs (renamed pair.0 pair.1 s)
unfolding renamed_in
renamed_last [] pair s = refl
renamed_last (first ∷ pairs) pair s = ap (renamed first.0 first.1) (renamed_last pairs pair s)

-- a pair that is taken from the end
pub next_renamed : (all left : Pairs) (pair : AuthId × AuthId) (s new : State) → all ≡ left ++ pair ∷ [] → new ≡ renamed pair.0 pair.1 s → renamed_in left new ≡ renamed_in all s
next_renamed all left pair s new split is = ap (renamed_in left) is ∙ sym (renamed_last left pair s) ∙ ap (λ ps. renamed_in ps s) (sym split)

legal_parts : (pairs : Pairs) (pair : AuthId × AuthId) (s : State) → AreLegal (pairs ++ pair ∷ []) s → (pair_fault (stands s) pair.0 pair.1 ≡ None) × AreLegal pairs (renamed pair.0 pair.1 s)
unfolding AreLegal renamed_in
legal_parts [] pair s legal = (legal.0, tt)
legal_parts (first ∷ pairs) pair s legal =
    let rest = legal_parts pairs pair s legal.1 in
    (rest.0, (subst (λ (st : State). pair_fault (stands st) first.0 first.1 ≡ None) (renamed_last pairs pair s) legal.0, rest.1))

legal_last : (pairs : Pairs) (pair : AuthId × AuthId) (s : State) → pair_fault (stands s) pair.0 pair.1 ≡ None → AreLegal pairs (renamed pair.0 pair.1 s) → AreLegal (pairs ++ pair ∷ []) s
unfolding AreLegal renamed_in
legal_last [] pair s here legal = (here, tt)
legal_last (first ∷ pairs) pair s here legal =
    (subst (λ (st : State). pair_fault (stands st) first.0 first.1 ≡ None) (sym (renamed_last pairs pair s)) legal.0, legal_last pairs pair s here legal.1)

pub next_legal : (all left : Pairs) (pair : AuthId × AuthId) (s : State) → all ≡ left ++ pair ∷ [] → AreLegal all s → (stands s pair.0 ≡ true) × (stands s pair.1 ≡ false) × AreLegal left (renamed pair.0 pair.1 s)
next_legal all left pair s split legal =
    let parts = legal_parts left pair s (subst (λ (ps : Pairs). AreLegal ps s) split legal) in
    let here = pair_none (stands s) pair.0 pair.1 (stands s pair.0) (stands s pair.1) parts.0 in
    (here.0, here.1, parts.1)

first_legal : (s : State) (pair : AuthId × AuthId) (o : Option Refusal) (t u : Bool) → cond t (cond u (Some (AccountExists pair.1)) o) (Some (NoSuchAccount pair.0)) ≡ None
    → cond t (cond u (Some (AccountExists pair.1)) None) (Some (NoSuchAccount pair.0)) ≡ None
first_legal s pair o true true none = cc
first_legal s pair o true false none = refl
first_legal s pair o false u none = cc

reverse_more : (pair : AuthId × AuthId) (pairs : Pairs) → reverse (pair ∷ pairs) ≡ reverse pairs ++ pair ∷ []
reverse_more pair pairs = reverse-append (pair ∷ []) pairs

none_legal : (s : State) → AreLegal [] s
unfolding AreLegal
none_legal s = tt

-- where no pair is refused, each may be renamed in its turn
all_legal : (pairs : Pairs) (s : State) → no_renaming (stands s) pairs ≡ None → AreLegal (reverse pairs) s
all_legal [] s none = none_legal s
all_legal (pair ∷ pairs) s none =
    let here : pair_fault (stands s) pair.0 pair.1 ≡ None =
    first_legal s pair (no_renaming (λ other. same_auth other pair.1 || (not (same_auth other pair.0) && stands s other)) pairs) (stands s pair.0) (stands s pair.1) none in
    subst (λ (ps : Pairs). AreLegal ps s) (sym (reverse_more pair pairs)) (legal_last (reverse pairs) pair s here (all_legal pairs (renamed pair.0 pair.1 s) (sym (renaming_next s pair pairs here) ∙ none)))

none_renamed : (s : State) → renamed_in [] s ≡ s
unfolding renamed_in
none_renamed s = refl

one_renamed : (pair : AuthId × AuthId) (pairs : Pairs) (s : State) → renamed_in (pair ∷ pairs) s ≡ renamed pair.0 pair.1 (renamed_in pairs s)
unfolding renamed_in
one_renamed pair pairs s = refl

in_order : (pairs : Pairs) (s : State) → renamed_in pairs s ≡ changed [] (RenameUser (reverse pairs)) s
in_order [] s = none_renamed s ∙ renamed_none s
in_order (pair ∷ pairs) s = one_renamed pair pairs s ∙ ap (renamed pair.0 pair.1) (in_order pairs s) ∙ renamed_more s (reverse pairs) pair ∙ ap (λ ps. changed [] (RenameUser ps) s) (sym (reverse_more pair pairs))

-- what the statement makes of the state
pub renamed_by : (pairs : Pairs) (s : State) → renamed_in (reverse pairs) s ≡ changed [] (RenameUser pairs) s
renamed_by pairs s = in_order (reverse pairs) s ∙ ap (λ ps. changed [] (RenameUser ps) s) (reverse-reverse pairs)

either_none : (o u : Option Refusal) → option_or o u ≡ None → (o ≡ None) × (u ≡ None)
either_none None u none = (refl, none)
either_none (Some e) u none = cc

pub legal_by : (pairs : Pairs) (s : State) → first_fault s (RenameUser pairs) ≡ None → AreLegal (reverse pairs) s
unfolding first_fault
legal_by pairs s none = all_legal pairs s (either_none _ _ none).0

-- ---- a renaming is taken back

module _ (s : State) (old new : AuthId) (may : MayBeRenamed s old new) where
  both : (stands s old ≡ true) × (stands s new ≡ false)
  both = pair_none (stands s) old new (stands s old) (stands s new) may.legal

  differ : same_auth new old ≡ false
  differ = by (same_auth new old) refl
    where
      by : (t : Bool) → same_auth new old ≡ t → t ≡ false
      by true same = absurd (true≢false (sym both.0 ∙ ap (stands s) (sym (equal_from_same_auth new old same)) ∙ both.1))
      by false differs = refl

  abbrev twice : Pairs
  twice = (old, new) ∷ (new, old) ∷ []

  name_new : (a : AuthId) → same_auth a new ≡ true → name_before twice a ≡ None
  name_new a same =
      let is : a ≡ new = equal_from_same_auth a new same in
      ap (name_before twice) is ∙ at
    where
      at : name_before twice new ≡ None
      at = ap (λ t. then_before old new (cond t (Some new) (cond (same_auth new new) None (Some new)))) differ
          ∙ ap (λ t. then_before old new (cond t None (Some new))) (same_auth_itself new)

  name_other : (a : AuthId) → same_auth a new ≡ false → name_before twice a ≡ Some a
  name_other a differs = by (same_auth a old) refl
    where
      by : (t : Bool) → same_auth a old ≡ t → then_before old new (cond t (Some new) (cond (same_auth a new) None (Some a))) ≡ Some a
      by true same = ap (λ t. cond t (Some old) (cond (same_auth new old) None (Some new))) (same_auth_itself new) ∙ ap (λ x. Some x) (sym (equal_from_same_auth a old same))
      by false other =
          ap (λ t. then_before old new (cond t None (Some a))) differs
          ∙ ap (λ t. cond t (Some old) (cond (same_auth a old) None (Some a))) differs
          ∙ ap (λ t. cond t None (Some a)) other

  one_back : (row : AuthId → Row) (a : AuthId) → (s.rows (row a) ≡ true → stands s a ≡ true) → was_row s (one_name row (name_before twice a)) ≡ s.rows (row a)
  one_back row a stand = by (same_auth a new) refl
    where
      gone : same_auth a new ≡ true → (t : Bool) → s.rows (row a) ≡ t → false ≡ t
      gone same true there = absurd (true≢false (sym (stand there) ∙ ap (stands s) (equal_from_same_auth a new same) ∙ both.1))
      gone same false absent = refl

      by : (t : Bool) → same_auth a new ≡ t → was_row s (one_name row (name_before twice a)) ≡ s.rows (row a)
      by true same = ap (λ o. was_row s (one_name row o)) (name_new a same) ∙ gone same (s.rows (row a)) refl
      by false differs = ap (λ o. was_row s (one_name row o)) (name_other a differs)

  two_back : (row : AuthId → AuthId → Row) (a b : AuthId) → (s.rows (row a b) ≡ true → (stands s a && stands s b) ≡ true)
      → was_row s (two_names row (name_before twice a) (name_before twice b)) ≡ s.rows (row a b)
  two_back row a b stand = by (same_auth a new) refl (same_auth b new) refl
    where
      gone : (c : AuthId) → same_auth c new ≡ true → (s.rows (row a b) ≡ true → stands s c ≡ true) → (t : Bool) → s.rows (row a b) ≡ t → false ≡ t
      gone c same there true stood = absurd (true≢false (sym (there stood) ∙ ap (stands s) (equal_from_same_auth c new same) ∙ both.1))
      gone c same there false absent = refl

      by : (t : Bool) → same_auth a new ≡ t → (u : Bool) → same_auth b new ≡ u → was_row s (two_names row (name_before twice a) (name_before twice b)) ≡ s.rows (row a b)
      by true same u is =
          ap (λ o. was_row s (two_names row o (name_before twice b))) (name_new a same)
          ∙ gone a same (λ stood. (and_parts (stands s a) (stands s b) (stand stood)).0) (s.rows (row a b)) refl
      by false differs true same =
          ap (λ o. was_row s (two_names row o (name_before twice b))) (name_other a differs) ∙ ap (λ o. was_row s (two_names row (Some a) o)) (name_new b same)
          ∙ gone b same (λ stood. (and_parts (stands s a) (stands s b) (stand stood)).1) (s.rows (row a b)) refl
      by false differs false other =
          ap (λ o. was_row s (two_names row o (name_before twice b))) (name_other a differs) ∙ ap (λ o. was_row s (two_names row (Some a) o)) (name_other b other)

  row_back : (row : Row) → was_row s (row_before twice row) ≡ s.rows row
  row_back (Account a) = one_back Account a (λ there. there)
  row_back (Global a p) = one_back (λ x. Global x p) a (may.names (Global a p))
  row_back (Dynamic a d) = one_back (λ x. Dynamic x d) a (may.names (Dynamic a d))
  row_back (DynamicGrant a d) = one_back (λ x. DynamicGrant x d) a (may.names (DynamicGrant a d))
  row_back (Schema a u p) = one_back (λ x. Schema x u p) a (may.names (Schema a u p))
  row_back (Table a u t p) = one_back (λ x. Table x u t p) a (may.names (Table a u t p))
  row_back (Column a u t c p) = one_back (λ x. Column x u t c p) a (may.names (Column a u t c p))
  row_back (Function a u f p) = one_back (λ x. Function x u f p) a (may.names (Function a u f p))
  row_back (Procedure a u f p) = one_back (λ x. Procedure x u f p) a (may.names (Procedure a u f p))
  row_back (Edge r a) = two_back Edge r a (may.names (Edge r a))
  row_back (Admin r a) = two_back Admin r a (may.names (Admin r a))
  row_back (Default a r) = two_back Default a r (may.names (Default a r))
  row_back (Restriction a p u) = one_back (λ x. Restriction x p u) a (may.names (Restriction a p u))

  data_back : (a : AuthId) (t : Bool) → same_auth a new ≡ t → data_of_old s (name_before twice a) ≡ s.account_data a
  data_back a true same = ap (data_of_old s) (name_new a same) ∙ sym (may.known a (ap (stands s) (equal_from_same_auth a new same) ∙ both.1))
  data_back a false differs = ap (data_of_old s) (name_other a differs)

  twice_is : changed [] (RenameUser twice) s ≡ s
  unfolding changed
  twice_is = same_state _ _ (λ row. kept_row twice s row _ ∙ row_back row) (λ a. data_back a (same_auth a new) refl) refl refl

  -- the state is what it was
  pub renamed_back : renamed new old (renamed old new s) ≡ s
  renamed_back =
      ap (renamed new old) (ap (renamed old new) (renamed_none s) ∙ renamed_more s [] (old, new)) ∙ renamed_more s ((old, new) ∷ []) (new, old) ∙ twice_is

  -- the new name stands, and the old one does not
  pub renamed_stand : (stands (renamed old new s) new ≡ true) × (stands (renamed old new s) old ≡ false)
  renamed_stand =
      let next = there_next s old new both.0 in (
        ap (λ there. there new) next ∙ ap (λ t. t || (not (same_auth new old) && stands s new)) (same_auth_itself new),
        ap (λ there. there old) next ∙ ap (λ t. t || (not (same_auth old old) && stands s old)) (same_auth_back new old (same_auth new old) refl ∙ differ)
            ∙ ap (λ t. not t && stands s old) (same_auth_itself old),
      )

-- ---- the first pairs are taken back

min_under : (done i : ℕ) → i < done → min done (i + 1) ≡ i + 1
min_under done i under = omega (arith, under)

min_over : (done i : ℕ) → done ≤ i → min done (i + 1) ≡ min done i
min_over done i over = omega (arith, over)

min_at : (done i : ℕ) → i < done → min done i ≡ i
min_at done i under = omega (arith, under)

abbrev pub first_pairs : Pairs → ℕ → State → State
first_pairs pairs n s = changed [] (RenameUser (take n pairs)) s

module _ (before cur : State) (pairs : Pairs) (done i : ℕ) (pair : AuthId × AuthId) (under : i < done) (within : i < length pairs) (is : pair ≡ get_or pairs i pair)
    (made : cur ≡ first_pairs pairs (min done (i + 1)) before) (way : HaveBeenRenamed pairs done before) where
  was_pair : cur ≡ renamed pair.0 pair.1 (first_pairs pairs i before)
  was_pair =
      made ∙ ap (λ n. first_pairs pairs n before) (min_under done i under) ∙ ap (λ ps. changed [] (RenameUser ps) before) (taken pairs i pair within is)
      ∙ sym (renamed_more before (take i pairs) pair)

  may_back : MayBeRenamed (first_pairs pairs i before) pair.0 pair.1
  may_back = way i under pair is

  pub back_stands : (stands cur pair.1 ≡ true) × (stands cur pair.0 ≡ false)
  back_stands = subst (λ (st : State). (stands st pair.1 ≡ true) × (stands st pair.0 ≡ false)) (sym was_pair) (renamed_stand (first_pairs pairs i before) pair.0 pair.1 may_back)

  pub back_state : (new : State) → new ≡ renamed pair.1 pair.0 cur → new ≡ first_pairs pairs (min done i) before
  back_state new comes =
      comes ∙ ap (renamed pair.1 pair.0) was_pair ∙ renamed_back (first_pairs pairs i before) pair.0 pair.1 may_back ∙ ap (λ n. first_pairs pairs n before) (sym (min_at done i under))

-- one pair more has been renamed
pub way_more : (pairs : Pairs) (i : ℕ) (s cur : State) (x : AuthId × AuthId) → i < length pairs → x ≡ get_or pairs i x → cur ≡ first_pairs pairs i s → MayBeRenamed cur x.0 x.1 → HaveBeenRenamed pairs i s → HaveBeenRenamed pairs (i + 1) s
way_more pairs i s cur x within is made may way j under pair at =
    elim (cases_lt j i) [
      | inl before ↦ way j before pair at
      | inr after ↦
          let same : i ≡ j = omega (arith, under, after) in
          here same (same_pairs same)
    ]
  where
    same_pairs : i ≡ j → x ≡ pair
    same_pairs same = is ∙ get_or_default pairs i x pair within ∙ ap (λ n. get_or pairs n pair) same ∙ sym at

    here : i ≡ j → x ≡ pair → MayBeRenamed (first_pairs pairs j s) pair.0 pair.1
    here same equal =
        subst (λ (p : AuthId × AuthId). MayBeRenamed (first_pairs pairs j s) p.0 p.1) equal
        (subst (λ (n : ℕ). MayBeRenamed (first_pairs pairs n s) x.0 x.1) same (subst (λ (st : State). MayBeRenamed st x.0 x.1) made may))

-- of an account that does not stand nothing is known
pub unknown : (tables : Tables) (a : AuthId) → stands (state_of tables) a ≡ false → (state_of tables).account_data a ≡ None
unfolding state_of
unknown tables a absent = by (number_of tables.accounts.names a) absent
  where
    by : (o : Option ℕ) → is_some o ≡ false → option_map (known_at tables.account_data) o ≡ None
    by None none = refl
    by (Some n) none = cc

pub may_be : (s : State) (old new : AuthId) (t u : Bool) → t ≡ stands s old → u ≡ stands s new → t ≡ true → u ≡ false → ((row : Row) → IsTrue (s.rows row) → IsTrue (names_stand s row))
    → ((a : AuthId) → stands s a ≡ false → s.account_data a ≡ None) → MayBeRenamed s old new
may_be s old new t u is_old is_new there fresh names known = record {
  legal = ap (λ b. cond b (cond (stands s new) (Some (AccountExists new)) None) (Some (NoSuchAccount old))) (sym is_old ∙ there)
      ∙ ap (λ b. cond b (Some (AccountExists new)) None) (sym is_new ∙ fresh);
  names = names;
  known = known;
}

-- ---- the loops

pub fault_of_part : (part whole : Option Refusal) → ((e : Refusal) → part ≡ Some e → whole ≡ Some e) → (e : Refusal) → IsWantOrFault part e → IsWantOrFault whole e
fault_of_part part whole first NoMemory is = tt
fault_of_part part whole first (NoSuchAccount a) is = first (NoSuchAccount a) is
fault_of_part part whole first (AccountExists a) is = first (AccountExists a) is
fault_of_part part whole first (Mandatory a) is = first (Mandatory a) is
fault_of_part part whole first (NoSuchGrant a) is = first (NoSuchGrant a) is
fault_of_part part whole first _ is = absurd is

pub lost_next : (n : ℕ) (first old new : Room) → LosesAtMost n first old → LosesAtMost 1 old new → LosesAtMost (n + 1) first new
lost_next n first old new lost one = record {
  accounts = omega (arith, lost.accounts, one.accounts);
  schemas = omega (arith, lost.schemas, one.schemas);
  pairs = omega (arith, lost.pairs, one.pairs);
  objects = omega (arith, lost.objects, one.objects);
  edges = omega (arith, lost.edges, one.edges);
}

pub no_way : (pairs : Pairs) (s : State) → HaveBeenRenamed pairs 0 s
no_way pairs s i under pair at = absurd (omega (arith, under))

pub all_renamed : (all : Pairs) (cur : State) → all ≡ [] → cur ≡ renamed_in all cur
all_renamed all cur none = sym (none_renamed cur) ∙ ap (λ ps. renamed_in ps cur) (sym none)

-- ---- what is left to be taken back

first_name : (left : List AuthId) (name : AuthId) (pairs : Pairs) (d : AuthId × AuthId) → left ++ name ∷ [] ≡ take (suc (length left)) (map (λ pair. pair.0) pairs) → name ≡ (get_or pairs (length left) d).0
first_name [] name [] d same = cc
first_name [] name (p ∷ pairs) d same = cc
first_name (l ∷ left) name [] d same = cc
first_name (l ∷ left) name (p ∷ pairs) d same =
    let rest : left ++ name ∷ [] ≡ take (suc (length left)) (map (λ pair. pair.0) pairs) = cc in
    first_name left name pairs d rest

names_left : (left : List AuthId) (name : AuthId) (names : List AuthId) → left ++ name ∷ [] ≡ take (suc (length left)) names → left ≡ take (length left) names
names_left [] name names same = refl
names_left (l ∷ left) name [] same = cc
names_left (l ∷ left) name (n ∷ names) same =
    let rest : left ++ name ∷ [] ≡ take (suc (length left)) names = cc in
    let here : l ≡ n = cc in
    ap (λ x. x ∷ left) here ∙ ap (λ xs. n ∷ xs) (names_left left name names rest)

module _ (pairs : Pairs) (all left : List AuthId) (name : AuthId) (split : all ≡ left ++ name ∷ []) (names : all ≡ take (length all) (map (λ pair. pair.0) pairs)) where
  longer : length all ≡ suc (length left)
  longer = let both : length all ≡ length left + 1 = ap length split ∙ length-append left (name ∷ []) in omega (arith, both)

  ended : left ++ name ∷ [] ≡ take (suc (length left)) (map (λ pair. pair.0) pairs)
  ended = sym split ∙ names ∙ ap (λ n. take n (map (λ pair. pair.0) pairs)) longer

  pub left_names : left ≡ take (length left) (map (λ pair. pair.0) pairs)
  left_names = names_left left name (map (λ pair. pair.0) pairs) ended

  module _ (before cur : State) (done i : ℕ) (x : AuthId × AuthId) (i_is : i ≡ length left) (under : i < done) (within : length all ≤ length pairs) (is : x ≡ get_or pairs i x)
      (made : cur ≡ first_pairs pairs (min done (length all)) before) (way : HaveBeenRenamed pairs done before) where
    name_is : name ≡ x.0
    name_is = first_name left name pairs x ended ∙ ap (λ n. (get_or pairs n x).0) (sym i_is) ∙ ap (λ (p : AuthId × AuthId). p.0) (sym is)

    inside : i < length pairs
    inside = omega (arith, longer, i_is, within)

    one_more : length all ≡ i + 1
    one_more = omega (arith, longer, i_is)

    here : cur ≡ first_pairs pairs (min done (i + 1)) before
    here = made ∙ ap (λ n. first_pairs pairs (min done n) before) one_more

    pub next_stands : stands cur x.1 ≡ true
    next_stands = (back_stands before cur pairs done i x under inside is here way).0

    pub next_fresh : stands cur name ≡ false
    next_fresh = ap (stands cur) name_is ∙ (back_stands before cur pairs done i x under inside is here way).1

    pub next_undone : (new : State) → new ≡ renamed x.1 name cur → new ≡ first_pairs pairs (min done (length left)) before
    next_undone new comes =
        back_state before cur pairs done i x under inside is here way new (comes ∙ ap (λ n. renamed x.1 n cur) name_is)
        ∙ ap (λ n. first_pairs pairs (min done n) before) i_is

pub all_undone : (pairs : Pairs) (done : ℕ) (all : List AuthId) (cur before : State) → all ≡ [] → cur ≡ first_pairs pairs (min done (length all)) before → cur ≡ before
all_undone pairs done all cur before none made =
    let least : min done (length all) ≡ 0 = ap (λ xs. min done (length xs)) none ∙ none_least done in
    made ∙ ap (λ n. first_pairs pairs n before) least ∙ sym (renamed_none before)
  where
    none_least : (n : ℕ) → min n 0 ≡ 0
    none_least n = omega arith

-- ---- what may be renamed

take_whole : (pairs : Pairs) → take (length pairs) pairs ≡ pairs
take_whole [] = refl
take_whole (p ∷ pairs) = ap (λ ps. p ∷ ps) (take_whole pairs)

pub all_done : (pairs : Pairs) (done : ℕ) (s u cur : State) → done ≡ length pairs → cur ≡ changed [] (RenameUser (take done pairs)) s → s ≡ u → cur ≡ changed [] (RenameUser pairs) u
all_done pairs done s u cur all made same =
    made ∙ ap (λ n. changed [] (RenameUser (take n pairs)) s) all ∙ ap (λ ps. changed [] (RenameUser ps) s) (take_whole pairs) ∙ ap (changed [] (RenameUser pairs)) same

-- a mandatory old name is the only fault left
pub mandatory_left : (s : State) (pairs : Pairs) → no_renaming (stands s) pairs ≡ None
    → first_fault s (RenameUser pairs) ≡ option_map (λ a. Mandatory a) (option_map (λ pair. pair.0) (find (λ pair. is_mandatory s pair.0) pairs))
unfolding first_fault
mandatory_left s pairs none = rw none (ap (option_map (λ a. Mandatory a)) (find-map (is_mandatory s) (λ (pair : AuthId × AuthId). pair.0) pairs))

pub fault_alone : (wanted : Option Refusal) (after : State) (e : Refusal) → IsWantOrFault wanted e → IsFaultOrLimit wanted after e
fault_alone wanted after NoMemory is = tt
fault_alone wanted after (NoSuchAccount a) is = is
fault_alone wanted after (AccountExists a) is = is
fault_alone wanted after (Mandatory a) is = is
fault_alone wanted after (NoSuchGrant a) is = is
fault_alone wanted after _ is = absurd is

-- what is told in a state is told in the same one by another name
pub told_of : (pairs : Pairs) (s u : State) → u ≡ s → no_renaming (stands s) pairs ≡ None
    → first_fault s (RenameUser pairs) ≡ option_map (λ a. Mandatory a) (option_map (λ pair. pair.0) (find (λ pair. is_mandatory u pair.0) pairs))
told_of pairs s u same none =
    mandatory_left s pairs none ∙ ap (λ (st : State). option_map (λ a. Mandatory a) (option_map (λ pair. pair.0) (find (λ pair. is_mandatory st pair.0) pairs))) (sym same)

pub fault_by : (wanted other : Option Refusal) (after : State) (e : Refusal) → wanted ≡ other → IsWantOrFault other e → IsFaultOrLimit wanted after e
fault_by wanted other after e same is = fault_alone wanted after e (subst (λ (o : Option Refusal). IsWantOrFault o e) (sym same) is)

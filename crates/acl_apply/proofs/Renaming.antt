-- Renaming, pair by pair.
use Rattle.std.proofs.Common.{◌≡◌, ◌∙◌, ap, sym, ℕ, suc, ◌<◌, ◌+◌, Bool, true, false, cond, not, ◌&&◌, ◌||◌, List, [], ◌∷◌, ◌++◌, Option, Some, None, length, get_or, take, drop, map, refl, add-one}
use Rattle.std.proofs.Math.Bool.{and-true}
use Rattle.std.proofs.Math.Seq.{drop-cons}
use Rattle.std.proofs.lemmas.List.{take_more}
use Rattle.std.specs.List.{find}
use Rattle.std.specs.Option.{option_and_then, option_map}
use Rattle.acl_names.specs.AuthId.{same_auth}
use Rattle.acl_names.specs.declared.auth.AuthId.{AuthId}
use Rattle.acl_model.specs.Accounts.{data_of_old}
use Rattle.acl_model.specs.Effects.{becomes, changed}
use Rattle.acl_model.specs.Refusals.{first_fault, no_renaming}
use Rattle.acl_model.specs.Renames.{before_pair, name_before, one_name, row_before, then_before, two_names}
use Rattle.acl_model.specs.State.{State, is_mandatory, stands}
use Rattle.acl_model.specs.declared.row.Row.{Row}
use Rattle.acl_model.specs.declared.row.Row.TheVariants.{Account, Global, Dynamic, DynamicGrant, Schema, Table, Column, Function, Procedure, Edge, Admin, Default, Restriction}
use Rattle.acl_rows.proofs.States.{same_state}
use Rattle.acl_rows.specs.Changes.{renamed}
use Rattle.acl_stmt.specs.declared.refusal.Refusal.{Refusal}
use Rattle.acl_stmt.specs.declared.refusal.Refusal.TheVariants.{AccountExists, Mandatory, NoSuchAccount}
use Rattle.acl_stmt.specs.declared.statement.Statement.TheVariants.{RenameUser}
use Rattle.acl_apply.specs.Renamed.{pair_fault}

abbrev Pairs : Type 0
Pairs = List (AuthId × AuthId)

kept_row : (pairs : Pairs) (s : State) (row : Row) (stood : Bool) → becomes [] (RenameUser pairs) s row stood ≡ stood
unfolding becomes
kept_row pairs s (Account a) stood = and-true stood
kept_row pairs s _ stood = and-true stood

some_itself : {A : Type 0} (o : Option A) → option_and_then (λ x. Some x) o ≡ o
some_itself None = refl
some_itself (Some x) = refl

through : (old new : AuthId) (f : AuthId → Option AuthId) (o : Option AuthId) → then_before old new (option_and_then f o) ≡ option_and_then (λ x. then_before old new (f x)) o
through old new f None = refl
through old new f (Some x) = refl

name_before-append : (pairs : Pairs) (pair : AuthId × AuthId) (a : AuthId)
    → name_before (pairs ++ pair ∷ []) a ≡ option_and_then (name_before pairs) (before_pair pair.0 pair.1 a)
name_before-append [] pair a = sym (some_itself (before_pair pair.0 pair.1 a))
name_before-append (first ∷ pairs) pair a =
    ap (then_before first.0 first.1) (name_before-append pairs pair a) ∙ through first.0 first.1 (name_before pairs) (before_pair pair.0 pair.1 a)

one_through : (row : AuthId → Row) (f : AuthId → Option AuthId) (g : Row → Option Row) → ((x : AuthId) → one_name row (f x) ≡ g (row x)) → (o : Option AuthId)
    → one_name row (option_and_then f o) ≡ option_and_then g (one_name row o)
one_through row f g alike None = refl
one_through row f g alike (Some x) = alike x

none_second : (row : AuthId → AuthId → Row) (o : Option AuthId) → two_names row o None ≡ None
none_second row None = refl
none_second row (Some x) = refl

two_through : (row : AuthId → AuthId → Row) (f : AuthId → Option AuthId) (g : Row → Option Row) → ((x y : AuthId) → two_names row (f x) (f y) ≡ g (row x y)) → (o u : Option AuthId)
    → two_names row (option_and_then f o) (option_and_then f u) ≡ option_and_then g (two_names row o u)
two_through row f g alike None u = refl
two_through row f g alike (Some x) None = none_second row (f x)
two_through row f g alike (Some x) (Some y) = alike x y

module _ (pairs : Pairs) (pair : AuthId × AuthId) where
  one_append : (row : AuthId → Row) → ((x : AuthId) → one_name row (name_before pairs x) ≡ row_before pairs (row x)) → (a : AuthId)
      → one_name row (name_before (pairs ++ pair ∷ []) a) ≡ option_and_then (row_before pairs) (one_name row (before_pair pair.0 pair.1 a))
  one_append row alike a = ap (one_name row) (name_before-append pairs pair a) ∙ one_through row (name_before pairs) (row_before pairs) alike (before_pair pair.0 pair.1 a)

  two_append : (row : AuthId → AuthId → Row) → ((x y : AuthId) → two_names row (name_before pairs x) (name_before pairs y) ≡ row_before pairs (row x y)) → (a b : AuthId)
      → two_names row (name_before (pairs ++ pair ∷ []) a) (name_before (pairs ++ pair ∷ []) b) ≡ option_and_then (row_before pairs) (two_names row (before_pair pair.0 pair.1 a) (before_pair pair.0 pair.1 b))
  two_append row alike a b =
      ap (λ o. two_names row o (name_before (pairs ++ pair ∷ []) b)) (name_before-append pairs pair a)
      ∙ ap (two_names row (option_and_then (name_before pairs) (before_pair pair.0 pair.1 a))) (name_before-append pairs pair b)
      ∙ two_through row (name_before pairs) (row_before pairs) alike (before_pair pair.0 pair.1 a) (before_pair pair.0 pair.1 b)

  row_before-append : (row : Row) → row_before (pairs ++ pair ∷ []) row ≡ option_and_then (row_before pairs) (row_before (pair ∷ []) row)
  row_before-append (Account a) = one_append Account (λ x. refl) a
  row_before-append (Global a p) = one_append (λ x. Global x p) (λ x. refl) a
  row_before-append (Dynamic a d) = one_append (λ x. Dynamic x d) (λ x. refl) a
  row_before-append (DynamicGrant a d) = one_append (λ x. DynamicGrant x d) (λ x. refl) a
  row_before-append (Schema a s p) = one_append (λ x. Schema x s p) (λ x. refl) a
  row_before-append (Table a s t p) = one_append (λ x. Table x s t p) (λ x. refl) a
  row_before-append (Column a s t c p) = one_append (λ x. Column x s t c p) (λ x. refl) a
  row_before-append (Function a s f p) = one_append (λ x. Function x s f p) (λ x. refl) a
  row_before-append (Procedure a s f p) = one_append (λ x. Procedure x s f p) (λ x. refl) a
  row_before-append (Edge r a) = two_append Edge (λ x y. refl) r a
  row_before-append (Admin r a) = two_append Admin (λ x y. refl) r a
  row_before-append (Default a r) = two_append Default (λ x y. refl) a r
  row_before-append (Restriction a p s) = one_append (λ x. Restriction x p s) (λ x. refl) a

row_before-none : (row : Row) → row_before [] row ≡ Some row
row_before-none (Account a) = refl
row_before-none _ = refl

abbrev was_row : State → Option Row → Bool
was_row s None = false
was_row s (Some row) = s.rows row

-- no pair
pub renamed_none : (s : State) → s ≡ changed [] (RenameUser []) s
unfolding changed
renamed_none s = same_state _ _ (λ row. sym (kept_row [] s row _ ∙ ap (was_row s) (row_before-none row))) (λ a. refl) refl refl

known_more : (s : State) (pairs : Pairs) (o : Option AuthId) → data_of_old (changed [] (RenameUser pairs) s) o ≡ data_of_old s (option_and_then (name_before pairs) o)
unfolding changed
known_more s pairs None = refl
known_more s pairs (Some a) = refl

was_more : (s : State) (pairs : Pairs) (o : Option Row) → was_row (changed [] (RenameUser pairs) s) o ≡ was_row s (option_and_then (row_before pairs) o)
unfolding changed
was_more s pairs None = refl
was_more s pairs (Some row) = kept_row pairs s row _

-- one pair more
pub renamed_more : (s : State) (pairs : Pairs) (pair : AuthId × AuthId) → renamed pair.0 pair.1 (changed [] (RenameUser pairs) s) ≡ changed [] (RenameUser (pairs ++ pair ∷ [])) s
unfolding changed renamed
renamed_more s pairs pair = same_state _ _
    (λ row. was_more s pairs (row_before (pair ∷ []) row) ∙ ap (was_row s) (sym (row_before-append pairs pair row)) ∙ sym (kept_row (pairs ++ pair ∷ []) s row _))
    (λ a. known_more s pairs (before_pair pair.0 pair.1 a) ∙ ap (data_of_old s) (sym (name_before-append pairs pair a))) refl refl

there_by : (s : State) (old new a : AuthId) → stands s old ≡ true → (u v : Bool)
    → was_row s (one_name Account (cond u (Some old) (cond v None (Some a)))) ≡ (u || (not v && stands s a))
there_by s old new a stood true v = stood
there_by s old new a stood false true = refl
there_by s old new a stood false false = refl

-- who is there after one pair
there_next : (s : State) (old new : AuthId) → stands s old ≡ true → stands (renamed old new s) ≡ (λ other. same_auth other new || (not (same_auth other old) && stands s other))
unfolding renamed
there_next s old new stood = λ i a. there_by s old new a stood (same_auth a new) (same_auth a old) i

pair_none : (there : AuthId → Bool) (old new : AuthId) (t u : Bool) → cond t (cond u (Some (AccountExists new)) None) (Some (NoSuchAccount old)) ≡ None → (t ≡ true) × (u ≡ false)
pair_none there old new true true none = cc
pair_none there old new true false none = (refl, refl)
pair_none there old new false u none = cc

renaming_next : (s : State) (pair : AuthId × AuthId) (rest : Pairs) → pair_fault (stands s) pair.0 pair.1 ≡ None
    → no_renaming (stands s) (pair ∷ rest) ≡ no_renaming (stands (renamed pair.0 pair.1 s)) rest
renaming_next s pair rest none =
    let parts = pair_none (stands s) pair.0 pair.1 (stands s pair.0) (stands s pair.1) none in
    ap (λ t. cond t (cond (stands s pair.1) (Some (AccountExists pair.1)) (no_renaming (λ other. same_auth other pair.1 || (not (same_auth other pair.0) && stands s other)) rest)) (Some (NoSuchAccount pair.0))) parts.0
    ∙ ap (λ t. cond t (Some (AccountExists pair.1)) (no_renaming (λ other. same_auth other pair.1 || (not (same_auth other pair.0) && stands s other)) rest)) parts.1
    ∙ ap (λ there. no_renaming there rest) (sym (there_next s pair.0 pair.1 parts.0))

first_by : (there : AuthId → Bool) (old new : AuthId) (o : Option Refusal) (e : Refusal) (t u : Bool) → cond t (cond u (Some (AccountExists new)) None) (Some (NoSuchAccount old)) ≡ Some e
    → cond t (cond u (Some (AccountExists new)) o) (Some (NoSuchAccount old)) ≡ Some e
first_by there old new o e true true is = is
first_by there old new o e true false is = cc
first_by there old new o e false u is = is

pub dropped : {X : Type 0} (xs : List X) (i : ℕ) (x : X) → i < length xs → x ≡ get_or xs i x → drop i xs ≡ x ∷ drop (i + 1) xs
dropped xs i x within is = rw add-one (drop-cons xs i x within ∙ ap (λ y. y ∷ drop (suc i) xs) (sym is))

pub taken : {X : Type 0} (xs : List X) (i : ℕ) (x : X) → i < length xs → x ≡ get_or xs i x → take (i + 1) xs ≡ take i xs ++ x ∷ []
taken xs i x within is = take_more xs i x within ∙ ap (λ y. take i xs ++ y ∷ []) (sym is)

-- one pair more is carried out
pub renames_step : (s cur new : State) (pairs : Pairs) (i : ℕ) (x : AuthId × AuthId) → i < length pairs → x ≡ get_or pairs i x → new ≡ renamed x.0 x.1 cur → pair_fault (stands cur) x.0 x.1 ≡ None
    → (cur ≡ changed [] (RenameUser (take i pairs)) s) × (no_renaming (stands s) pairs ≡ no_renaming (stands cur) (drop i pairs))
    → (new ≡ changed [] (RenameUser (take (i + 1) pairs)) s) × (no_renaming (stands s) pairs ≡ no_renaming (stands new) (drop (i + 1) pairs))
renames_step s cur new pairs i x within is ok none inv = (
  ok ∙ ap (renamed x.0 x.1) inv.0 ∙ renamed_more s (take i pairs) x ∙ ap (λ ps. changed [] (RenameUser ps) s) (sym (taken pairs i x within is)),
  inv.1 ∙ ap (no_renaming (stands cur)) (dropped pairs i x within is) ∙ renaming_next cur x (drop (i + 1) pairs) none ∙ ap (λ st. no_renaming (stands st) (drop (i + 1) pairs)) (sym ok),
)

-- a pair that is refused refuses the statement
pub renames_fault : (s cur : State) (pairs : Pairs) (i : ℕ) (x : AuthId × AuthId) → i < length pairs → x ≡ get_or pairs i x → no_renaming (stands s) pairs ≡ no_renaming (stands cur) (drop i pairs)
    → (e : Refusal) → pair_fault (stands cur) x.0 x.1 ≡ Some e → first_fault s (RenameUser pairs) ≡ Some e
unfolding first_fault
renames_fault s cur pairs i x within is inv e fault =
    let first : no_renaming (stands s) pairs ≡ Some e =
    inv ∙ ap (no_renaming (stands cur)) (dropped pairs i x within is)
    ∙ first_by (stands cur) x.0 x.1 (no_renaming (λ other. same_auth other x.1 || (not (same_auth other x.0) && stands cur other)) (drop (i + 1) pairs)) e (stands cur x.0) (stands cur x.1) fault in
    rw first refl

find-map : {X Y : Type 0} (p : Y → Bool) (f : X → Y) (xs : List X) → find p (map f xs) ≡ option_map f (find (λ x. p (f x)) xs)
find-map p f [] = refl
find-map p f (x ∷ xs) = at (p (f x)) (find-map p f xs)
  where
    at : (t : Bool) → find p (map f xs) ≡ option_map f (find (λ x. p (f x)) xs) → cond t (Some (f x)) (find p (map f xs)) ≡ option_map f (cond t (Some x) (find (λ x. p (f x)) xs))
    at true rest = refl
    at false rest = rest

dropped_all : {X : Type 0} (xs : List X) → drop (length xs) xs ≡ []
dropped_all [] = refl
dropped_all (x ∷ xs) = dropped_all xs

-- at the end, a mandatory old name is the only fault left
pub renames_end : (s cur : State) (pairs : Pairs) (i : ℕ) → i ≡ length pairs → no_renaming (stands s) pairs ≡ no_renaming (stands cur) (drop i pairs)
    → first_fault s (RenameUser pairs) ≡ option_map (λ a. Mandatory a) (option_map (λ pair. pair.0) (find (λ pair. is_mandatory s pair.0) pairs))
unfolding first_fault
renames_end s cur pairs i all inv =
    let none : no_renaming (stands s) pairs ≡ None = inv ∙ ap (no_renaming (stands cur)) (ap (λ n. drop n pairs) all ∙ dropped_all pairs) in
    rw none (ap (option_map (λ a. Mandatory a)) (find-map (is_mandatory s) (λ (pair : AuthId × AuthId). pair.0) pairs))

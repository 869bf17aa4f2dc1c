-- Rows that come one by one.
use Rattle.std.proofs.Common.{◌≡◌, ◌∙◌, ◌<◌, ◌≤◌, ◌+◌, ◌-◌, ap, sym, subst, refl, ℕ, Bool, true, false, ◌||◌, ◌&&◌, List, [], ◌∷◌, ◌++◌, length, Option, None, Some, IsSome, ◌↔◌, IsTrue, arith}
use Rattle.std.specs.Option.{option_to_list}
use Rattle.std.proofs.Math.Bool.{or-false}
use Rattle.std.proofs.lemmas.Bool.{and_from, and_parts, or_left, or_right}
use Rattle.std.proofs.lemmas.List.{length-append}
use Rattle.acl_model.proofs.SameRows.{same_row_itself}
use Rattle.acl_model.specs.Rows.{same_row}
use Rattle.acl_model.specs.State.{State, stands}
use Rattle.acl_model.specs.declared.row.Row.{Row}
use Rattle.acl_model.specs.declared.row.Row.TheVariants.{Account, Global, Dynamic, DynamicGrant, Schema, Table, Column, Function, Procedure, Edge, Admin, Default, Restriction}
use Rattle.acl_names.specs.declared.auth.AuthId.{AuthId}
use Rattle.row_tables.proofs.RoomLeft.{ready_is_grant}
use Rattle.row_tables.proofs.RowLists.{any-more, has}
use Rattle.row_tables.proofs.States.{same_state}
use Rattle.row_tables.specs.Changes.{data_with, with_row}
use Rattle.row_tables.specs.Conditions.{is_account, names_stand}
use Rattle.row_tables.specs.Lists.{HasBasis, IsReadyAmong, with_rows}
use Rattle.row_tables.specs.Rooms.{LosesAtMost, RowsFitIn}
use Rattle.row_tables.specs.declared.room.Room.{Room}

-- what was taken from the end of a list
pub last_taken : (all left : List Row) (row : Row) (o : Option Row) → o ≡ Some row → all ≡ left ++ option_to_list o → all ≡ left ++ row ∷ []
last_taken all left row o is split = split ∙ ap (λ x. left ++ option_to_list x) is

pub none_taken : (all left : List Row) (o : Option Row) → o ≡ None → length left ≡ 0 → all ≡ left ++ option_to_list o → all ≡ []
none_taken all [] o is none split = split ∙ ap option_to_list is
none_taken all (x ∷ left) o is none split = absurd (omega arith)

pub last_listed : (all left : List Row) (row : Row) → all ≡ left ++ row ∷ [] → has all row ≡ true
last_listed all left row split =
    ap (λ xs. has xs row) split ∙ any-more left row row ∙ or_right (has left row) (same_row row row) (same_row_itself row)

pub left_listed : (all left : List Row) (row other : Row) → all ≡ left ++ row ∷ [] → has left other ≡ true → has all other ≡ true
left_listed all left row other split there =
    ap (λ xs. has xs other) split ∙ any-more left row other ∙ or_left (has left other) (same_row other row) there

or_turn : (a b c : Bool) → ((a || b) || c) ≡ (a || (c || b))
or_turn true b c = refl
or_turn false true true = refl
or_turn false true false = refl
or_turn false false true = refl
or_turn false false false = refl

data_same : (x : Row) (st : State) (a : AuthId) → is_account x ≡ false → data_with x st a ≡ st.account_data a
data_same (Account b) st a other = cc
data_same _ st a other = refl

-- one has come, and the others are left
pub one_came : (s : State) (left : List Row) (x : Row) → is_account x ≡ false → with_rows left (with_row x s) ≡ with_rows (left ++ x ∷ []) s
unfolding with_row with_rows
one_came s left x other =
    same_state _ _ (λ row. or_turn (s.rows row) (same_row row x) (has left row) ∙ ap (λ t. s.rows row || t) (sym (any-more left x row)))
    (λ a. data_same x s a other) refl refl

module _ (s t : State) (more : (row : Row) → s.rows row ≡ true → t.rows row ≡ true) where
  both_more : (a b : AuthId) → (stands s a && stands s b) ≡ true → (stands t a && stands t b) ≡ true
  both_more a b there =
      let parts = and_parts (stands s a) (stands s b) there in
      and_from (stands t a) (stands t b) (more (Account a) parts.0) (more (Account b) parts.1)

  names_more : (row : Row) → names_stand s row ≡ true → names_stand t row ≡ true
  names_more (Account a) there = refl
  names_more (Edge role to) there = both_more role to there
  names_more (Admin role to) there = both_more role to there
  names_more (Default of role) there = both_more of role there
  names_more (Global a p) there = more (Account a) there
  names_more (Dynamic a d) there = more (Account a) there
  names_more (DynamicGrant a d) there = more (Account a) there
  names_more (Schema a u p) there = more (Account a) there
  names_more (Table a u v p) there = more (Account a) there
  names_more (Column a u v c p) there = more (Account a) there
  names_more (Function a u f p) there = more (Account a) there
  names_more (Procedure a u f p) there = more (Account a) there
  names_more (Restriction a p u) there = more (Account a) there

  basis_more : (row : Row) → HasBasis s [] row → HasBasis t [] row
  basis_more (DynamicGrant a d) basis = or-false (t.rows (Dynamic a d)) ∙ more (Dynamic a d) (sym (or-false (s.rows (Dynamic a d))) ∙ basis)
  basis_more _ basis = basis

  ready_more : (row : Row) → IsReadyAmong s [] row → IsReadyAmong t [] row
  ready_more row ready = record { names = names_more row ready.names; level = ready.level; basis = basis_more row ready.basis }

more_with : (s : State) (x row : Row) → s.rows row ≡ true → (with_row x s).rows row ≡ true
unfolding with_row
more_with s x row there = or_left (s.rows row) (same_row row x) there

-- ---- a step of the loop

module _ (cur next : State) (all left : List Row) (row : Row) (split : all ≡ left ++ row ∷ []) (ready : (r : Row) → IsTrue (has all r) → IsReadyAmong cur [] r) (came : next ≡ with_row row cur) where
  pub row_ready : IsReadyAmong cur [] row
  row_ready = ready row (last_listed all left row split)

  pub row_plain : is_account row ≡ false
  row_plain = ready_is_grant cur [] row row_ready.basis

  pub next_state : with_rows left next ≡ with_rows all cur
  next_state = ap (with_rows left) came ∙ one_came cur left row row_plain ∙ ap (λ xs. with_rows xs cur) (sym split)

  pub next_ready : (r : Row) → IsTrue (has left r) → IsReadyAmong next [] r
  next_ready r there =
      subst (λ st. IsReadyAmong st [] r) (sym came) (ready_more cur (with_row row cur) (more_with cur row) r (ready r (left_listed all left row r split there)))

pub next_room : (all left : List Row) (row : Row) → all ≡ left ++ row ∷ [] → (old new : Room) → RowsFitIn (length all) old → LosesAtMost 1 old new → RowsFitIn (length left) new
next_room all left row split old new fits lost =
    let more : length all ≡ length left + 1 = ap length split ∙ length-append left (row ∷ []) in
    record {
      schemas = omega (arith, more, fits.schemas, lost.schemas);
      pairs = omega (arith, more, fits.pairs, lost.pairs);
      objects = omega (arith, more, fits.objects, lost.objects);
      edges = omega (arith, more, fits.edges, lost.edges);
    }

pub row_fits : (all left : List Row) (row : Row) → all ≡ left ++ row ∷ [] → (room : Room) → RowsFitIn (length all) room → RowsFitIn (length all - 0) room
row_fits all left row split room fits = record {
  schemas = omega (arith, fits.schemas);
  pairs = omega (arith, fits.pairs);
  objects = omega (arith, fits.objects);
  edges = omega (arith, fits.edges);
}

pub some_length : (all left : List Row) (row : Row) → all ≡ left ++ row ∷ [] → 0 < length all
some_length all left row split = let more : length all ≡ length left + 1 = ap length split ∙ length-append left (row ∷ []) in omega (arith, more)

pub with_none : (s : State) → with_rows [] s ≡ s
unfolding with_rows
with_none s = same_state _ _ (λ row. or-false (s.rows row)) (λ a. refl) refl refl

-- where nothing is taken from the end, nothing is left
pub nothing_left : (all : List Row) (o : Option Row) → o ≡ None → (IsSome o ↔ (0 < length all)) → all ≡ []
nothing_left [] o none some = refl
nothing_left (x ∷ all) o none some = cc (some.1 (omega arith), none)

-- ---- how much room is lost

pub lost_more : (n : ℕ) (all left : List Row) (row : Row) → all ≡ left ++ row ∷ [] → (first old new : Room) → length all ≤ n → LosesAtMost (n - length all) first old → LosesAtMost 1 old new → LosesAtMost (n - length left) first new
lost_more n all left row split first old new fewer lost one =
    let more : length all ≡ length left + 1 = ap length split ∙ length-append left (row ∷ []) in
    record {
      accounts = omega (arith, more, fewer, lost.accounts, one.accounts);
      schemas = omega (arith, more, fewer, lost.schemas, one.schemas);
      pairs = omega (arith, more, fewer, lost.pairs, one.pairs);
      objects = omega (arith, more, fewer, lost.objects, one.objects);
      edges = omega (arith, more, fewer, lost.edges, one.edges);
    }

pub fewer_left : (n : ℕ) (all left : List Row) (row : Row) → all ≡ left ++ row ∷ [] → length all ≤ n → length left ≤ n
fewer_left n all left row split fewer =
    let more : length all ≡ length left + 1 = ap length split ∙ length-append left (row ∷ []) in
    omega (arith, more, fewer)

pub lost_none : (n : ℕ) (room : Room) → LosesAtMost (n - n) room room
lost_none n room = record { accounts = omega arith; schemas = omega arith; pairs = omega arith; objects = omega arith; edges = omega arith }

pub lost_all : (n left : ℕ) (first last : Room) → LosesAtMost (n - left) first last → LosesAtMost n first last
lost_all n left first last lost = record {
  accounts = omega (arith, lost.accounts);
  schemas = omega (arith, lost.schemas);
  pairs = omega (arith, lost.pairs);
  objects = omega (arith, lost.objects);
  edges = omega (arith, lost.edges);
}

-- what is asked for two lists is there for the first, and for the second after it
pub room_after : (n m lost : ℕ) (old new : Room) → RowsFitIn (n + m) old → LosesAtMost lost old new → lost ≤ m → RowsFitIn n new
room_after n m lost old new fits loses few = record {
  schemas = omega (arith, fits.schemas, loses.schemas, few);
  pairs = omega (arith, fits.pairs, loses.pairs, few);
  objects = omega (arith, fits.objects, loses.objects, few);
  edges = omega (arith, fits.edges, loses.edges, few);
}

pub room_behind : (n m : ℕ) (first old new : Room) → RowsFitIn (n + m) first → LosesAtMost 0 first old → LosesAtMost n old new → RowsFitIn m new
room_behind n m first old new fits none loses = record {
  schemas = omega (arith, fits.schemas, none.schemas, loses.schemas);
  pairs = omega (arith, fits.pairs, none.pairs, loses.pairs);
  objects = omega (arith, fits.objects, none.objects, loses.objects);
  edges = omega (arith, fits.edges, none.edges, loses.edges);
}

pub lost_in_all : (n m : ℕ) (first gone plain last : Room) → LosesAtMost 0 first gone → LosesAtMost n gone plain → LosesAtMost m plain last → LosesAtMost (n + m) first last
lost_in_all n m first gone plain last none one other = record {
  accounts = omega (arith, none.accounts, one.accounts, other.accounts);
  schemas = omega (arith, none.schemas, one.schemas, other.schemas);
  pairs = omega (arith, none.pairs, one.pairs, other.pairs);
  objects = omega (arith, none.objects, one.objects, other.objects);
  edges = omega (arith, none.edges, one.edges, other.edges);
}

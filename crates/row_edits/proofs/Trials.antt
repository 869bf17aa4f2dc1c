-- Rows that go and rows that come, tried and taken back.
use Rattle.std.proofs.Common.{◌≡◌, ◌∙◌, ◌≤◌, ◌+◌, ap, sym, subst, refl, ℕ, suc, Bool, true, false, cond, not, ◌||◌, ◌&&◌, List, [], ◌∷◌, None, Result, Ok, Err, is_ok, length, filter, IsTrue, arith}
use Rattle.std.proofs.lemmas.Bool.{and_from, and_parts, not-true, or_left, or_right, true≢false}
use Rattle.std.proofs.lemmas.List.Folds.{list_any-append}
use Rattle.std.specs.Result.{OnOk}
use Rattle.acl_model.specs.Counts.{IsExceeded}
use Rattle.acl_model.specs.Firsts.{HasNone}
use Rattle.acl_model.specs.State.{State, stands}
use Rattle.acl_model.specs.Rows.{holder}
use Rattle.acl_model.specs.declared.row.Row.{Row}
use Rattle.acl_model.specs.declared.row.Row.TheVariants.{Account, Dynamic, DynamicGrant, Edge, Admin, Default}
use Rattle.acl_names.specs.declared.auth.AuthId.{AuthId}
use Rattle.row_tables.proofs.Coming.{all_come, ready_holdings, ready_options}
use Rattle.row_tables.proofs.RowLists.{any-filter, has}
use Rattle.row_tables.proofs.States.{same_state}
use Rattle.row_tables.specs.Conditions.{has_its_level, names_stand}
use Rattle.row_tables.specs.Lists.{HasBasis, IsClosed, IsReadyAmong, with_rows, without_rows}
use Rattle.row_tables.specs.Rooms.{HasRoomFor, LosesAtMost, RowsFitIn, room_of}
use Rattle.row_tables.specs.Tables.{Tables, state_of}
use Rattle.row_tables.specs.declared.room.Room.{Room}
use Rattle.acl_stmt.specs.declared.refusal.Full.{Full}
use Rattle.row_edits.proofs.Back.{come_is_closed, taken_back}
use Rattle.row_edits.proofs.Comes.{with_none}
use Rattle.row_edits.specs.Edits.{IsEditOf, MayBeTried, is_simple}
use Rattle.row_edits.specs.declared.tried.RowEdit.{RowEdit}
use Rattle.row_edits.specs.Layers.{is_option, is_plain}
use Rattle.row_edits.specs.Parts.{AreNew, new_of}

-- ---- room

pub fits_reserved : (n : ℕ) (asked room : Room) → RowsFitIn n asked → HasRoomFor asked room → RowsFitIn n room
fits_reserved n asked room fits has = record {
  schemas = omega (arith, fits.schemas, has.schemas);
  pairs = omega (arith, fits.pairs, has.pairs);
  objects = omega (arith, fits.objects, has.objects);
  edges = omega (arith, fits.edges, has.edges);
}

pub fits_fewer : (n m : ℕ) (room : Room) → n ≤ m → RowsFitIn m room → RowsFitIn n room
fits_fewer n m room fewer fits = record {
  schemas = omega (arith, fewer, fits.schemas);
  pairs = omega (arith, fewer, fits.pairs);
  objects = omega (arith, fewer, fits.objects);
  edges = omega (arith, fewer, fits.edges);
}

pub fits_then : (n m lost rest : ℕ) (old new : Room) → RowsFitIn (n + m) old → LosesAtMost lost old new → lost ≤ n → rest ≤ m → RowsFitIn rest new
fits_then n m lost rest old new fits loses few less = record {
  schemas = omega (arith, fits.schemas, loses.schemas, few, less);
  pairs = omega (arith, fits.pairs, loses.pairs, few, less);
  objects = omega (arith, fits.objects, loses.objects, few, less);
  edges = omega (arith, fits.edges, loses.edges, few, less);
}

-- ---- the two parts of a list

both_parts : (row : Row) (n m l : ℕ) → n + m ≤ l → (p o : Bool) → is_plain row ≡ p → is_option row ≡ o → cond p (suc n) n + cond o (suc m) m ≤ suc l
both_parts row n m l less true true plain option = absurd (never row plain option)
  where
    never : (row : Row) → is_plain row ≡ true → is_option row ≡ true → ⊥
    never (DynamicGrant a d) plain option = cc
    never (Admin role to) plain option = cc
    never (Account a) plain option = cc
    never _ plain option = cc
both_parts row n m l less true false plain option = omega (arith, less)
both_parts row n m l less false true plain option = omega (arith, less)
both_parts row n m l less false false plain option = omega (arith, less)

length_cond : (t : Bool) (row : Row) (rows : List Row) → length (cond t (row ∷ rows) rows) ≡ cond t (suc (length rows)) (length rows)
length_cond true row rows = refl
length_cond false row rows = refl

filters_fit : (list : List Row) → length (filter is_plain list) + length (filter is_option list) ≤ length list
filters_fit [] = omega arith
filters_fit (row ∷ list) =
    let less : length (filter is_plain list) + length (filter is_option list) ≤ length list = filters_fit list in
    let p = length_cond (is_plain row) row (filter is_plain list) in
    let o = length_cond (is_option row) row (filter is_option list) in
    rw (p, o) (both_parts row (length (filter is_plain list)) (length (filter is_option list)) (length list) less (is_plain row) (is_option row) refl refl)

module _ (s : State) (list : List Row) (ready : (row : Row) → IsTrue (has list row) → IsReadyAmong s list row) (plain options : List Row)
    (is_p : plain ≡ filter is_plain list) (is_o : options ≡ filter is_option list) where
  inside : (p : Row → Bool) (part : List Row) → part ≡ filter p list → (row : Row) → has part row ≡ true → (has list row ≡ true) × (p row ≡ true)
  inside p part is row there = and_parts (has list row) (p row) (sym (any-filter p row list) ∙ ap (λ rows. has rows row) (sym is) ∙ there)

  pub plain_ready : (cur : State) → cur ≡ s → (row : Row) → IsTrue (has plain row) → IsReadyAmong cur [] row
  plain_ready cur is row there =
      let both = inside is_plain plain is_p row there in
      subst (λ (st : State). IsReadyAmong st [] row) (sym is) (ready_holdings s list ready row both.0 both.1)

  plain_comes : (cur : State) → cur ≡ s → with_rows plain cur ≡ with_rows (filter is_plain list) s
  plain_comes cur is = ap (λ rows. with_rows rows cur) is_p ∙ ap (with_rows (filter is_plain list)) is

  pub options_ready : (cur : State) → cur ≡ s → (row : Row) → IsTrue (has options row) → IsReadyAmong (with_rows plain cur) [] row
  options_ready cur is row there =
      let both = inside is_option options is_o row there in
      ready_options s list ready (with_rows plain cur) (plain_comes cur is) row both.0 both.1

  pub parts_come : (cur : State) → cur ≡ s → with_rows options (with_rows plain cur) ≡ with_rows list s
  parts_come cur is =
      all_come s list ready (with_rows plain cur) (with_rows options (with_rows plain cur)) (plain_comes cur is)
      (ap (λ rows. with_rows rows (with_rows plain cur)) is_o)

  pub parts_fit : length plain + length options ≤ length list
  parts_fit = rw (is_p, is_o) (filters_fit list)

-- ---- what goes and comes

module _ (s : State) (gone come : List Row) (tried : MayBeTried s gone come) where
  pub no_account_goes : (a : AuthId) → has gone (Account a) ≡ false
  no_account_goes a = by (has gone (Account a)) refl
    where
      by : (t : Bool) → has gone (Account a) ≡ t → t ≡ false
      by true there = absurd (true≢false (sym (tried.simple (Account a) there)))
      by false absent = refl

  no_account_comes : (a : AuthId) → has come (Account a) ≡ false
  no_account_comes a = by (has come (Account a)) refl
    where
      by : (t : Bool) → has come (Account a) ≡ t → t ≡ false
      by true there = absurd (tried.ready (Account a) there).basis
      by false absent = refl

  no_role_comes : (role to : AuthId) → has come (Edge role to) ≡ false
  no_role_comes role to = by (has come (Edge role to)) refl
    where
      by : (t : Bool) → has come (Edge role to) ≡ t → t ≡ false
      by true there = absurd (tried.ready (Edge role to) there).basis
      by false absent = refl

  -- a row that stands and does not go stands still
  left_there : (row : Row) → s.rows row ≡ true → has gone row ≡ false → (without_rows gone s).rows row ≡ true
  unfolding without_rows
  left_there row stood stays = and_from (s.rows row) (not (has gone row)) stood (ap not stays)

  was_there : (row : Row) → (without_rows gone s).rows row ≡ true → (s.rows row ≡ true) × (has gone row ≡ false)
  unfolding without_rows
  was_there row there =
      let both = and_parts (s.rows row) (not (has gone row)) there in
      (both.0, not-true (has gone row) both.1)

  account_left : (a : AuthId) → stands s a ≡ true → stands (without_rows gone s) a ≡ true
  account_left a there = left_there (Account a) there (no_account_goes a)

  both_left : (a b : AuthId) → (stands s a && stands s b) ≡ true → (stands (without_rows gone s) a && stands (without_rows gone s) b) ≡ true
  both_left a b there =
      let parts = and_parts (stands s a) (stands s b) there in
      and_from (stands (without_rows gone s) a) (stands (without_rows gone s) b) (account_left a parts.0) (account_left b parts.1)

  names_left : (row : Row) → names_stand s row ≡ true → names_stand (without_rows gone s) row ≡ true
  names_left (Account a) there = refl
  names_left (Edge role to) there = both_left role to there
  names_left (Admin role to) there = both_left role to there
  names_left (Default of role) there = both_left of role there
  names_left row there = account_left (holder row) there

  module _ (fresh : AreNew s come) where
    fresh_left : (row : Row) → has come row ≡ true → (without_rows gone s).rows row ≡ false
    unfolding without_rows
    fresh_left row there = ap (λ t. t && not (has gone row)) (fresh row there)

    back : (t c : Bool) → (c ≡ true → t ≡ false) → ((t || c) && not c) ≡ t
    back true true new = absurd (true≢false (new refl))
    back true false new = refl
    back false true new = refl
    back false false new = refl

    -- what came is gone again
    pub come_gone : (cur : State) → cur ≡ with_rows come (without_rows gone s) → without_rows come cur ≡ without_rows gone s
    unfolding with_rows without_rows
    come_gone cur is = ap (without_rows come) is ∙ again
      where
        known : (a : AuthId) (t : Bool) → t ≡ false → cond t None ((without_rows gone s).account_data a) ≡ (without_rows gone s).account_data a
        known a true absent = cc
        known a false absent = refl

        again : without_rows come (with_rows come (without_rows gone s)) ≡ without_rows gone s
        again =
            same_state _ _ (λ row. back ((without_rows gone s).rows row) (has come row) (fresh_left row))
            (λ a. known a (has come (Account a)) (no_account_comes a)) refl refl

    module _ (levels : (row : Row) → IsTrue (s.rows row) → IsTrue (has_its_level row)) (names : (row : Row) → IsTrue (s.rows row) → IsTrue (names_stand s row))
        (beside : (a : AuthId) (d : ℕ) → IsTrue (s.rows (DynamicGrant a d)) → IsTrue (s.rows (Dynamic a d))) where
      beside_left : (a : AuthId) (d : ℕ) → IsTrue ((without_rows gone s).rows (DynamicGrant a d)) → IsTrue ((without_rows gone s).rows (Dynamic a d))
      beside_left a d there =
          let was = was_there (DynamicGrant a d) there in
          by (has gone (Dynamic a d)) refl was
        where
          by : (t : Bool) → has gone (Dynamic a d) ≡ t → (s.rows (DynamicGrant a d) ≡ true) × (has gone (DynamicGrant a d) ≡ false) → (without_rows gone s).rows (Dynamic a d) ≡ true
          by true goes was = absurd (true≢false (sym (tried.closed.of_dynamic a d goes was.0) ∙ was.1))
          by false stays was = left_there (Dynamic a d) (beside a d was.0) stays

      pub come_closed : (cur : State) → cur ≡ with_rows come (without_rows gone s) → IsClosed cur come
      come_closed cur is =
          subst (λ (st : State). IsClosed st come) (sym is)
          (come_is_closed s gone come tried.stand fresh_left no_account_goes no_account_comes beside_left no_role_comes)

      basis_back : (row : Row) → has gone row ≡ true → HasBasis (without_rows gone s) gone row
      basis_back (Account a) there = absurd (true≢false (sym (tried.simple (Account a) there)))
      basis_back (Edge role to) there = absurd (true≢false (sym (tried.simple (Edge role to) there)))
      basis_back (Admin role to) there = absurd (true≢false (sym (tried.simple (Admin role to) there)))
      basis_back (DynamicGrant a d) there = by (has gone (Dynamic a d)) refl
        where
          by : (t : Bool) → has gone (Dynamic a d) ≡ t → ((without_rows gone s).rows (Dynamic a d) || t) ≡ true
          by true goes = or_right ((without_rows gone s).rows (Dynamic a d)) true refl
          by false stays = or_left ((without_rows gone s).rows (Dynamic a d)) false (left_there (Dynamic a d) (beside a d (tried.stand (DynamicGrant a d) there)) stays)
      basis_back _ there = tt

      -- what went may come again
      pub back_ready : (row : Row) → IsTrue (has gone row) → IsReadyAmong (without_rows gone s) gone row
      back_ready row there =
          let stood = tried.stand row there in
          record { names = names_left row (names row stood); level = levels row stood; basis = basis_back row there }

      -- and the state is what it was
      pub all_back : (cur last : State) → cur ≡ with_rows come (without_rows gone s) → last ≡ with_rows gone (without_rows gone s) → last ≡ s
      all_back cur last is comes =
          comes ∙ ap (with_rows gone) (sym (come_gone (with_rows come (without_rows gone s)) refl))
          ∙ taken_back s gone come tried.stand fresh_left no_account_goes no_account_comes

  -- ---- what of a list is new

  new_has : (row : Row) → has (new_of s come) row ≡ (has come row && not (s.rows row))
  new_has row = any-filter (λ r. not (s.rows r)) row come

  pub are_new : (cur : List Row) → cur ≡ new_of s come → AreNew s cur
  are_new cur is row there =
      not-true (s.rows row) (and_parts (has come row) (not (s.rows row)) (sym (new_has row) ∙ ap (λ rows. has rows row) (sym is) ∙ there)).1

  new_listed : (row : Row) → has (new_of s come) row ≡ true → has come row ≡ true
  new_listed row there = (and_parts (has come row) (not (s.rows row)) (sym (new_has row) ∙ there)).0

  basis_new : (row : Row) → HasBasis (without_rows gone s) come row → HasBasis (without_rows gone s) (new_of s come) row
  basis_new (DynamicGrant a d) basis = by ((without_rows gone s).rows (Dynamic a d)) refl (s.rows (Dynamic a d)) refl (has come (Dynamic a d)) refl basis
    where
      by : (t : Bool) → (without_rows gone s).rows (Dynamic a d) ≡ t → (u : Bool) → s.rows (Dynamic a d) ≡ u → (v : Bool) → has come (Dynamic a d) ≡ v
          → (t || v) ≡ true → (t || has (new_of s come) (Dynamic a d)) ≡ true
      by true is u stood v comes all = or_left true (has (new_of s come) (Dynamic a d)) refl
      by false is u stood false comes all = absurd (true≢false (sym all))
      by false is true stood true comes all =
          absurd (true≢false (sym (left_there (Dynamic a d) stood (tried.apart (Dynamic a d) comes)) ∙ is))
      by false is false stood true comes all = new_has (Dynamic a d) ∙ and_from (has come (Dynamic a d)) (not (s.rows (Dynamic a d))) comes (ap not stood)
  basis_new _ basis = basis

  pub new_tried : (cur : List Row) → cur ≡ new_of s come → MayBeTried s gone cur
  new_tried cur is = subst (λ (rows : List Row). MayBeTried s gone rows) (sym is) (record {
    stand = tried.stand;
    simple = tried.simple;
    closed = tried.closed;
    ready = λ row there. let r = tried.ready row (new_listed row there) in record { names = r.names; level = r.level; basis = basis_new row r.basis };
    apart = λ row there. tried.apart row (new_listed row there);
  })

  -- the rows that stand already make no difference
  pub new_come : (cur : List Row) → cur ≡ new_of s come → with_rows cur (without_rows gone s) ≡ with_rows come (without_rows gone s)
  unfolding with_rows without_rows
  new_come cur is = ap (λ rows. with_rows rows (without_rows gone s)) is ∙ same
    where
      by : (row : Row) (c u : Bool) → has come row ≡ c → s.rows row ≡ u → ((without_rows gone s).rows row || (c && not u)) ≡ ((without_rows gone s).rows row || c)
      by row false u comes stood = refl
      by row true false comes stood = refl
      by row true true comes stood = rw (left_there row stood (tried.apart row comes)) refl

      same : with_rows (new_of s come) (without_rows gone s) ≡ with_rows come (without_rows gone s)
      same = same_state _ _
          (λ row. ap (λ t. (without_rows gone s).rows row || t) (new_has row) ∙ by row (has come row) (s.rows row) refl refl) (λ a. refl) refl refl

-- ---- rows that go alone

pub left_stays : (gone : List Row) (s : State) (row : Row) → IsTrue ((without_rows gone s).rows row) → IsTrue (s.rows row)
unfolding without_rows
left_stays gone s row there = (and_parts (s.rows row) (not (has gone row)) there).0

pub none_fewer : (s few : State) (whats : List Full) → ((what : Full) → IsExceeded few what → IsExceeded s what) → HasNone (IsExceeded s) whats → HasNone (IsExceeded few) whats
none_fewer s few whats more none = λ earlier what later split over. none earlier what later split (more what over)

pub of_ok : {E : Type 0} (result : Result (Unit {0}) E) (P : Type 0) → is_ok result ≡ true → OnOk result P → P
of_ok (Ok x) P is holds = holds
of_ok (Err e) P is holds = cc

pub only_gone : (s : State) (gone plain options : List Row) → plain ≡ [] → options ≡ [] → with_rows options (with_rows plain (without_rows gone s)) ≡ without_rows gone s
only_gone s gone plain options no_plain no_options =
    ap (λ rows. with_rows rows (with_rows plain (without_rows gone s))) no_options ∙ with_none (with_rows plain (without_rows gone s))
    ∙ ap (λ rows. with_rows rows (without_rows gone s)) no_plain ∙ with_none (without_rows gone s)

-- ---- an edit with room for it

pub fits_none : (come : List Row) (room : Room) → RowsFitIn (length come + 0) room → RowsFitIn (length come) room
fits_none come room fits = record {
  schemas = omega (arith, fits.schemas);
  pairs = omega (arith, fits.pairs);
  objects = omega (arith, fits.objects);
  edges = omega (arith, fits.edges);
}

pub edit_made : (s : State) (gone come : List Row) → MayBeTried s gone come → (edit : RowEdit) (rows : Tables) → state_of rows ≡ s → edit.plain.items ≡ filter is_plain come → edit.options.items ≡ filter is_option come
    → edit.gone.items ≡ gone → RowsFitIn (length come) (room_of rows) → IsEditOf edit rows
edit_made s gone come tried edit rows same plain options goes fits =
    let left : without_rows edit.gone.items (state_of rows) ≡ without_rows gone s = ap (λ list. without_rows list (state_of rows)) goes ∙ ap (without_rows gone) same in
    let ready = tried.ready in
    record {
      closed = subst (λ (st : State). IsClosed st edit.gone.items) (sym same) (subst (λ (list : List Row). IsClosed s list) (sym goes) tried.closed);
      plain = plain_ready (without_rows gone s) come ready edit.plain.items edit.options.items plain options (without_rows edit.gone.items (state_of rows)) left;
      options = options_ready (without_rows gone s) come ready edit.plain.items edit.options.items plain options (without_rows edit.gone.items (state_of rows)) left;
      room = fits_fewer (length edit.plain.items + length edit.options.items) (length come) (room_of rows)
          (parts_fit (without_rows gone s) come ready edit.plain.items edit.options.items plain options) fits;
    }

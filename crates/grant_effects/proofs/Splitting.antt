-- What a GRANT gives and takes, account by account.
use Rattle.std.proofs.Common.{◌≡◌, ◌∙◌, ap, sym, refl, ℕ, Bool, true, false, not, ◌&&◌, ◌||◌, List, [], ◌∷◌, ◌≤◌, length, take, Result, Ok, Err}
use Rattle.std.proofs.Math.Bool.{and-false, or-false}
use Rattle.std.proofs.lemmas.Bool.{false_from_ne_true, true≢false}
use Rattle.std.proofs.lemmas.List.{take_all}
use Rattle.std.specs.List.{list_any}
use Rattle.std.specs.Result.{OnOk}
use Rattle.acl_names.proofs.SameAuth.{equal_from_text_eq, text_eq_itself}
use Rattle.acl_names.specs.AuthId.{same_auth}
use Rattle.acl_names.specs.Text.{text_eq}
use Rattle.acl_names.specs.declared.auth.AuthId.{AuthId}
use Rattle.acl_model.specs.Effects.{gives, takes}
use Rattle.acl_model.specs.Rows.{holder, lists, same_row}
use Rattle.acl_model.specs.State.{State}
use Rattle.acl_model.specs.Words.{limited, names_column, names_dynamic}
use Rattle.acl_model.specs.declared.row.Row.{Row}
use Rattle.acl_model.specs.declared.row.Row.TheVariants.{Global, Dynamic, DynamicGrant, Schema, Table, Column, Function, Procedure, Restriction}
use Rattle.acl_stmt.specs.declared.limit.Limit.{Limit}
use Rattle.acl_stmt.specs.declared.privileges.PrivList.{PrivList}
use Rattle.acl_stmt.specs.declared.statement.Statement.TheVariants.{Grant}
use Rattle.acl_stmt.specs.declared.target.Target.{Target}
use Rattle.acl_stmt.specs.declared.target.Target.TheVariants as on
use Rattle.grant_effects.proofs.Adding.{any_and, no_items, same_added, then_adds}
use Rattle.grant_effects.proofs.Bools.{four_parts}
use Rattle.grant_effects.specs.Given.{column_given, dynamic_given, given_of, limit_gives, restriction_given, static_given}
use Rattle.grant_effects.specs.Granted.{grants_number}
use Rattle.grant_effects.specs.Lists.{Adds}
use Rattle.grant_effects.specs.Taken.{taken_of}
use Rattle.priv_sets.specs.StaticSet.{holds}

text_back : (a b : List ℕ) → text_eq a b ≡ text_eq b a
text_back a b = by (text_eq a b) refl
  where
    by : (t : Bool) → text_eq a b ≡ t → t ≡ text_eq b a
    by true same = sym (ap (λ (x : List ℕ). text_eq b x) (equal_from_text_eq a b same) ∙ text_eq_itself b)
    by false differ = sym (false_from_ne_true (text_eq b a) (λ same. true≢false (sym (ap (text_eq a) (equal_from_text_eq b a same) ∙ text_eq_itself a) ∙ differ)))

-- one of four parts alone
first_part : (x : Bool) (limits : List Limit) → (((x || false) || false) || list_any (λ limit. false) limits) ≡ x
first_part x limits = ap (λ t. ((x || false) || false) || t) (no_items limits) ∙ by x
  where
    by : (t : Bool) → (((t || false) || false) || false) ≡ t
    by true = refl
    by false = refl

second_part : (x : Bool) (limits : List Limit) → ((x || false) || list_any (λ limit. false) limits) ≡ x
second_part x limits = ap (λ t. (x || false) || t) (no_items limits) ∙ by x
  where
    by : (t : Bool) → ((t || false) || false) ≡ t
    by true = refl
    by false = refl

third_part : (x : Bool) (limits : List Limit) → (x || list_any (λ limit. false) limits) ≡ x
third_part x limits = ap (λ t. x || t) (no_items limits) ∙ or-false x

no_part : (limits : List Limit) (b : Bool) → false ≡ (b && list_any (λ limit. false) limits)
no_part limits b = sym (ap (λ t. b && t) (no_items limits) ∙ and-false b)

option_first : (o l n : Bool) → ((o && l) && n) ≡ (l && (o && n))
option_first true true n = refl
option_first true false n = refl
option_first false true n = refl
option_first false false n = refl

one_text_free : (x l n r : Bool) → (((x && l) && n) && r) ≡ (l && ((x && n) && r))
one_text_free true true n r = refl
one_text_free true false n r = refl
one_text_free false true n r = refl
one_text_free false false n r = refl

two_texts : (x y l n : Bool) → (((x && y) && l) && n) ≡ (l && ((x && y) && n))
two_texts x y l n = option_first (x && y) l n

same_texts : (u v s t : List ℕ) (l n : Bool) → (((text_eq u s && text_eq v t) && l) && n) ≡ (l && ((text_eq s u && text_eq t v) && n))
same_texts u v s t l n =
    ap (λ x. ((x && text_eq v t) && l) && n) (text_back u s) ∙ ap (λ x. ((text_eq s u && x) && l) && n) (text_back v t) ∙ two_texts (text_eq s u) (text_eq t v) l n

object_split : (u v s t : List ℕ) (l n : Bool) (limits : List Limit)
    → (((text_eq u s && text_eq v t) && l) && n) ≡ (l && (((((text_eq s u && text_eq t v) && n) || false) || false) || list_any (λ limit. false) limits))
object_split u v s t l n limits = same_texts u v s t l n ∙ ap (λ x. l && x) (sym (first_part ((text_eq s u && text_eq t v) && n) limits))

-- the limits that hand a restriction on
by_limits : (limits : List Limit) (s : List ℕ) (p : ℕ) (l n g h : Bool)
    → ((((l && n) && limited limits s p) && g) && h) ≡ (l && list_any (λ limit. text_eq s limit.schema && (holds limit.privileges p && n && g && h)) limits)
by_limits [] s p l n g h = none l n
  where
    none : (l n : Bool) → ((((l && n) && false) && g) && h) ≡ (l && false)
    none true true = refl
    none true false = refl
    none false n = refl
by_limits (x ∷ xs) s p l n g h =
    split l n (text_eq s x.schema) (holds x.privileges p) (limited xs s p) g h
    ∙ ap (λ t. (l && (text_eq s x.schema && (holds x.privileges p && n && g && h))) || t) (by_limits xs s p l n g h)
    ∙ join l (text_eq s x.schema && (holds x.privileges p && n && g && h)) (list_any (λ limit. text_eq s limit.schema && (holds limit.privileges p && n && g && h)) xs)
  where
    split : (l n e q r g h : Bool) → ((((l && n) && ((e && q) || r)) && g) && h) ≡ ((l && (e && (q && n && g && h))) || ((((l && n) && r) && g) && h))
    split true true true true true true true = refl
    split true true true true true true false = refl
    split true true true true true false h = refl
    split true true true true false true true = refl
    split true true true true false true false = refl
    split true true true true false false h = refl
    split true true true false r g h = refl
    split true true false q r g h = refl
    split true false true true r g h = refl
    split true false true false r g h = refl
    split true false false q r g h = refl
    split false n e q r g h = refl

    join : (l a b : Bool) → ((l && a) || (l && b)) ≡ (l && (a || b))
    join true a b = refl
    join false a b = refl

module _ (state : State) (limits : List Limit) (privileges : PrivList) (accounts : List AuthId) (option : Bool) where
  -- what it gives
  pub gives_split : (target : Target) (row : Row)
      → gives limits (Grant privileges target accounts option) state row ≡ (lists accounts (holder row) && given_of state limits privileges target option row)
  unfolding static_given column_given dynamic_given limit_gives grants_number
  gives_split on.Global (Global a p) = ap (λ t. lists accounts a && t) (sym (first_part _ limits))
  gives_split on.Global (Dynamic a d) = ap (λ t. lists accounts a && t) (sym (third_part _ limits))
  gives_split on.Global (DynamicGrant a d) = option_first option (lists accounts a) (names_dynamic privileges d) ∙ ap (λ t. lists accounts a && t) (sym (third_part _ limits))
  gives_split on.Global (Restriction a p s) = by_limits limits s p (lists accounts a) _ (not (state.rows (Global a p))) (not (state.rows (Schema a s p)))
  gives_split (on.Schema u) (Schema a s p) =
      let granted = grants_number privileges (on.Schema u) option p in
      let free = not (state.rows (Restriction a p s)) in
      ap (λ t. ((t && lists accounts a) && granted) && free) (text_back u s)
      ∙ one_text_free (text_eq s u) (lists accounts a) granted free
      ∙ ap (λ t. lists accounts a && t) (sym (first_part ((text_eq s u && granted) && free) limits))
  gives_split (on.Table u v) (Table a s t p) = object_split u v s t (lists accounts a) (grants_number privileges (on.Table u v) option p) limits
  gives_split (on.Table u v) (Column a s t c p) =
      same_texts u v s t (lists accounts a) (names_column privileges p c)
      ∙ ap (λ x. lists accounts a && x) (sym (second_part ((text_eq s u && text_eq t v) && names_column privileges p c) limits))
  gives_split (on.Function u v) (Function a s f p) = object_split u v s f (lists accounts a) (grants_number privileges (on.Function u v) option p) limits
  gives_split (on.Procedure u v) (Procedure a s f p) = object_split u v s f (lists accounts a) (grants_number privileges (on.Procedure u v) option p) limits
  gives_split target row = no_part limits (lists accounts (holder row))

  -- what it takes
  pub takes_split : (row : Row) (target : Target)
      → takes limits (Grant privileges target accounts option) row ≡ (lists accounts (holder row) && taken_of limits privileges target option row)
  unfolding grants_number
  takes_split (Restriction a p s) on.Global = two_more ((lists accounts a && grants_number privileges on.Global option p) && not (limited limits s p)) ∙ and_and (lists accounts a) (grants_number privileges on.Global option p) (not (limited limits s p))
    where
      two_more : (x : Bool) → ((x || false) || false) ≡ x
      two_more true = refl
      two_more false = refl

      and_and : (l n r : Bool) → ((l && n) && r) ≡ (l && (n && r))
      and_and true n r = refl
      and_and false n r = refl
  takes_split (Restriction a p s) (on.Schema u) = three_more ((text_eq u s && lists accounts a) && grants_number privileges (on.Schema u) option p) ∙ last (text_eq u s) (lists accounts a) (grants_number privileges (on.Schema u) option p)
    where
      three_more : (x : Bool) → (((x || false) || false) || false) ≡ x
      three_more true = refl
      three_more false = refl

      last : (x l n : Bool) → ((x && l) && n) ≡ (l && (n && x))
      last true true true = refl
      last true true false = refl
      last true false n = refl
      last false true true = refl
      last false true false = refl
      last false false n = refl
  takes_split (Restriction a p s) target = sym (and-false (lists accounts a))
  takes_split row target = sym (and-false (lists accounts (holder row)))

-- the four kinds of rows of one account
pub four_added : {E : Type 0} {old first second third : List Row} (new : List Row) (result : Result (Unit {0}) E) (state : State) (limits : List Limit) (privileges : PrivList) (target : Target) (option : Bool) (account : AuthId)
    → Adds (λ row. same_auth (holder row) account && static_given state privileges target option row) old first
    → Adds (λ row. same_auth (holder row) account && column_given privileges target row) first second
    → Adds (λ row. same_auth (holder row) account && dynamic_given privileges target option row) second third
    → OnOk result (Adds (λ row. same_auth (holder row) account && restriction_given state limits privileges target option row) third new)
    → OnOk result (Adds (λ row. same_auth (holder row) account && given_of state limits privileges target option row) old new)
four_added new (Err e) state limits privileges target option account statics columns dynamics restrictions = tt
four_added new (Ok done) state limits privileges target option account statics columns dynamics restrictions =
    same_added (then_adds (then_adds (then_adds statics columns) dynamics) restrictions)
    (λ row. four_parts (same_auth (holder row) account) (static_given state privileges target option row) (column_given privileges target row) (dynamic_given privileges target option row)
    (restriction_given state limits privileges target option row))

-- account by account, all rows that it gives
pub all_given : {rows : List Row} (state : State) (limits : List Limit) (privileges : PrivList) (target : Target) (accounts : List AuthId) (option : Bool) (i : ℕ) → length accounts ≤ i
    → Adds (λ row. list_any (λ account. same_auth (holder row) account && given_of state limits privileges target option row) (take i accounts)) [] rows
    → (row : Row) → list_any (same_row row) rows ≡ gives limits (Grant privileges target accounts option) state row
all_given state limits privileges target accounts option i all added row =
    let test : AuthId → Bool = λ account. same_auth (holder row) account && given_of state limits privileges target option row in
    added.is row ∙ ap (list_any test) (take_all i accounts all)
    ∙ any_and (same_auth (holder row)) (given_of state limits privileges target option row) accounts
    ∙ sym (gives_split state limits privileges accounts option target row)

stood_last : (h l t : Bool) → (l && (h && t)) ≡ (h && (l && t))
stood_last true true t = refl
stood_last true false t = refl
stood_last false true t = refl
stood_last false false t = refl

-- account by account, all standing rows that it takes
pub all_taken : {rows : List Row} (state : State) (limits : List Limit) (privileges : PrivList) (target : Target) (accounts : List AuthId) (option : Bool) (i : ℕ) → length accounts ≤ i
    → Adds (λ row. list_any (λ account. same_auth (holder row) account && (state.rows row && taken_of limits privileges target option row)) (take i accounts)) [] rows
    → (row : Row) → list_any (same_row row) rows ≡ (state.rows row && takes limits (Grant privileges target accounts option) row)
all_taken state limits privileges target accounts option i all added row =
    let rest = state.rows row && taken_of limits privileges target option row in
    let test : AuthId → Bool = λ account. same_auth (holder row) account && rest in
    added.is row ∙ ap (list_any test) (take_all i accounts all)
    ∙ any_and (same_auth (holder row)) rest accounts
    ∙ stood_last (state.rows row) (lists accounts (holder row)) (taken_of limits privileges target option row)
    ∙ ap (λ t. state.rows row && t) (sym (takes_split state limits privileges accounts option row target))

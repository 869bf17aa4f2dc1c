-- What is read names few columns.
use Rattle.std.proofs.Common.{◌≡◌, ℕ, suc, ◌+◌, ◌≤◌, Bool, true, IsTrue, List, [], ◌∷◌, ◌++◌, length, length-append, refl, sym, ap, ◌∙◌, subst, sum_by, inl, inr, arith}
use Rattle.std.proofs.lemmas.Bool.{and_from}
use Rattle.std.proofs.lemmas.List.Sums.{sum_by-cons}
use Rattle.std.specs.List.{list_all}
use Rattle.std.specs.Prelude.{Option}
use Rattle.acl_grammar.specs.Spelling.{separated, spells}
use Rattle.acl_stmt.specs.declared.target.Target.{Target}
use Rattle.grant_words.specs.Classes.{is}
use Rattle.grant_words.specs.Lists.{comma}
use Rattle.grant_words.specs.Names.{ident}
use Rattle.grant_words.specs.Syntax.{grammar_of}
use Rattle.grant_words.specs.declared.lexeme.Lexeme.{Lexeme}
use Rattle.priv_items.specs.Naming.{column_count, columns_within, items_in}
use Rattle.priv_items.specs.declared.item.Item.{Item}
use Rattle.priv_items.specs.declared.item.Item.TheVariants.{Plain, Columns, Dynamic, Usage}
use Rattle.priv_items.specs.declared.item.Named.{Named}
use Rattle.priv_items.specs.declared.item.Named.TheVariants.{All}
use Rattle.priv_sets.specs.Levels.{grant_option}
use Rattle.privilege_statements.specs.Columns.{HasColumns, has_columns, privileges_of}
use Rattle.privilege_statements.specs.PrivilegeItems.{column_names, item, maybe_columns, maybe_privileges, privilege_item, privileges, static_item, static_privilege}
use Rattle.privilege_statements.specs.Statements.{grant, privilege_statement, privileges_on_target, request, revoke}
use Rattle.privilege_statements.specs.declared.statement.RawStatement.{RawStatement}

cut_length : {T : Type 0} (ts us ws : List T) → ts ≡ us ++ ws → length ts ≡ length us + length ws
cut_length ts us ws whole = ap length whole ∙ length-append us ws

-- where each part has as many tokens as its value counts, so has the list
separated_sum : {T A : Type 0} (mark : T → Bool) (P : List T → A → Type 0) (count : A → ℕ) → ((us : List T) (v : A) → P us v → count v ≤ length us)
    → (ts : List T) (vs : List A) → separated mark P ts vs → sum_by count vs ≤ length ts
separated_sum mark P count each ts [] h = absurd h
separated_sum mark P count each ts (v ∷ []) h = let first : count v ≤ length ts = each ts v h in omega arith
separated_sum mark P count each ts (v ∷ w ∷ vs) (us, t, ws, whole, marked, spelled, more) =
    let first : count v ≤ length us = each us v spelled in
    let later : sum_by count (w ∷ vs) ≤ length ws = separated_sum mark P count each ws (w ∷ vs) more in
    let whole_sum : sum_by count (v ∷ w ∷ vs) ≡ count v + sum_by count (w ∷ vs) = sum_by-cons count v (w ∷ vs) in
    let long : length ts ≡ length us + suc (length ws) = cut_length ts us (t ∷ ws) whole in
    omega arith

separated_length : {T A : Type 0} (mark : T → Bool) (P : List T → A → Type 0) → ((us : List T) (v : A) → P us v → 1 ≤ length us)
    → (ts : List T) (vs : List A) → separated mark P ts vs → length vs ≤ length ts
separated_length mark P each ts [] h = absurd h
separated_length mark P each ts (v ∷ []) h = each ts v h
separated_length mark P each ts (v ∷ w ∷ vs) (us, t, ws, whole, marked, spelled, more) =
    let later : length (w ∷ vs) ≤ length ws = separated_length mark P each ws (w ∷ vs) more in
    let long : length ts ≡ length us + suc (length ws) = cut_length ts us (t ∷ ws) whole in
    omega arith

separated_all : {T A : Type 0} (mark : T → Bool) (P : List T → A → Type 0) (test : A → Bool) → ((us : List T) (v : A) → P us v → IsTrue (test v))
    → (ts : List T) (vs : List A) → separated mark P ts vs → IsTrue (list_all test vs)
separated_all mark P test each ts [] h = absurd h
separated_all mark P test each ts (v ∷ []) h = and_from (test v) true (each ts v h) refl
separated_all mark P test each ts (v ∷ w ∷ vs) (us, t, ws, whole, marked, spelled, more) =
    and_from (test v) (list_all test (w ∷ vs)) (each us v spelled) (separated_all mark P test each ws (w ∷ vs) more)

-- an item with few columns, but some where it has a list of them
record Fine (tokens : ℕ) (one : Item) : Type 0 where
  few : columns_within one ≤ tokens
  some : IsTrue (has_columns one)

bare : (tokens : ℕ) (one other : Item) → one ≡ other → columns_within other ≡ 0 → has_columns other ≡ true → Fine tokens one
bare tokens one other same none some =
    record { few = let zero_columns : columns_within one ≡ 0 = ap columns_within same ∙ none in omega arith; some = ap has_columns same ∙ some }

ident_length : (us : List Lexeme) (v : List ℕ) → spells (grammar_of ident) us v → 1 ≤ length us
unfolding ident
ident_length us v (t, fits, one, same) = let long : length us ≡ 1 = ap length one in omega arith

columns_length : (us : List Lexeme) (columns : List (List ℕ)) → spells (grammar_of column_names) us columns → length columns ≤ length us
unfolding column_names
columns_length us columns (v, (xs, ys, whole, listed, end), same) =
    let few : length v.0 ≤ length xs = separated_length (is comma) (spells (grammar_of ident)) ident_length xs v.0 listed in
    let long : length us ≡ length xs + length ys = cut_length us xs ys whole in
    let equal : length columns ≡ length v.0 = ap length same in
    omega arith

columns_some : (number : ℕ) (us : List Lexeme) (columns : List (List ℕ)) → spells (grammar_of column_names) us columns → IsTrue (has_columns (Columns number columns))
unfolding column_names
columns_some number us columns (v, (xs, ys, whole, listed, end), same) = ap (λ names. has_columns (Columns number names)) same ∙ some v.0 listed
  where
    some : (names : List (List ℕ)) → separated (is comma) (spells (grammar_of ident)) xs names → has_columns (Columns number names) ≡ true
    some [] h = absurd h
    some (name ∷ names) h = refl

fine_static : (number : ℕ) (us : List Lexeme) (columns : Option (List (List ℕ))) → spells (grammar_of maybe_columns) us columns → Fine (length us) (static_item number columns)
unfolding maybe_columns
fine_static number us columns (inl (t, ws, fits, whole, (names, spelled, same))) =
    let few : length names ≤ length ws = columns_length ws names spelled in
    let long : length us ≡ suc (length ws) = ap length whole in
    let equal : static_item number columns ≡ Columns number names = ap (λ o. static_item number o) same in
    record {
      few = let count : columns_within (static_item number columns) ≡ length names = ap columns_within equal in omega arith;
      some = ap has_columns equal ∙ columns_some number ws names spelled;
    }
fine_static number us columns (inr (none, same)) = bare (length us) (static_item number columns) (Plain number) (ap (λ o. static_item number o) same) refl refl

fine_item : (us : List Lexeme) (one : Item) → spells (grammar_of item) us one → Fine (length us) one
unfolding item privilege_item static_privilege
fine_item us one (inl (t, ws, fits, whole, (none, same))) = bare (length us) one Usage same refl refl
fine_item us one (inr (inl (t, ws, fits, whole, (t', xs, fits', whole', (none, same))))) = bare (length us) one (Plain grant_option) same refl refl
fine_item us one (inr (inr (inl (number, spelled, same)))) = bare (length us) one (Dynamic number) same refl refl
fine_item us one (inr (inr (inr (v, (xs, ys, whole, name, columns), same)))) =
    let fine : Fine (length ys) (static_item v.0 v.1) = fine_static v.0 ys v.1 columns in
    let few : columns_within (static_item v.0 v.1) ≤ length ys = fine.few in
    let long : length us ≡ length xs + length ys = cut_length us xs ys whole in
    record {
      few = let count : columns_within one ≡ columns_within (static_item v.0 v.1) = ap columns_within same in omega arith;
      some = ap has_columns same ∙ fine.some;
    }

all_has : (tokens : ℕ) (named : Named) → named ≡ All → HasColumns named tokens
all_has tokens named same =
    record {
      some = ap (λ n. list_all has_columns (items_in n)) same;
      few = let count : column_count (items_in named) ≡ 0 = ap (λ n. column_count (items_in n)) same in omega arith;
    }

privileges_have : (us : List Lexeme) (named : Named) → spells (grammar_of privileges) us named → HasColumns named (length us)
unfolding privileges maybe_privileges
privileges_have us named (inl (t, ws, fits, whole, inl (t', xs, fits', whole', (none, same)))) = all_has (length us) named same
privileges_have us named (inl (t, ws, fits, whole, inr (none, same))) = all_has (length us) named same
privileges_have us named (inr (items, listed, same)) =
    record {
      some =
          ap (λ n. list_all has_columns (items_in n)) same
          ∙ separated_all (is comma) (spells (grammar_of item)) has_columns (λ ws one spelled. (fine_item ws one spelled).some) us items listed;
      few =
          let count : column_count (items_in named) ≡ column_count items = ap (λ n. column_count (items_in n)) same in
          let sum : column_count items ≤ length us =
          separated_sum (is comma) (spells (grammar_of item)) columns_within (λ ws one spelled. (fine_item ws one spelled).few) us items listed in
          omega arith;
    }

-- more tokens are no harm
among_more : (named : Named) (few more : ℕ) → few ≤ more → HasColumns named few → HasColumns named more
among_more named few more less h = record { some = h.some; few = let count : column_count (items_in named) ≤ few = h.few in omega arith }

in_front : (us xs ys : List Lexeme) (named : Named) → us ≡ xs ++ ys → HasColumns named (length xs) → HasColumns named (length us)
in_front us xs ys named whole h =
    let long : length us ≡ length xs + length ys = cut_length us xs ys whole in
    among_more named (length xs) (length us) (omega arith) h

behind_keyword : (us ws : List Lexeme) (t : Lexeme) (named : Named) → us ≡ t ∷ ws → HasColumns named (length ws) → HasColumns named (length us)
behind_keyword us ws t named whole h =
    let long : length us ≡ suc (length ws) = ap length whole in
    among_more named (length ws) (length us) (omega arith) h

on_target_has : (us : List Lexeme) (v : Named × Target) → spells (grammar_of privileges_on_target) us v → HasColumns v.0 (length us)
unfolding privileges_on_target
on_target_has us v (xs, ys, whole, named, target) = in_front us xs ys v.0 whole (privileges_have xs v.0 named)

grant_has : (us : List Lexeme) (statement : RawStatement) → spells (grammar_of grant) us statement → HasColumns (privileges_of statement) (length us)
unfolding grant
grant_has us statement (v, (xs, ys, whole, what, to), same) =
    let P : RawStatement → Type 0 = λ s. HasColumns (privileges_of s) (length us) in
    subst P (sym same) (in_front us xs ys v.0.0 whole (on_target_has xs v.0 what))

revoke_has : (us : List Lexeme) (statement : RawStatement) → spells (grammar_of revoke) us statement → HasColumns (privileges_of statement) (length us)
unfolding revoke
revoke_has us statement (v, (xs, ys, whole, what, to), same) =
    let P : RawStatement → Type 0 = λ s. HasColumns (privileges_of s) (length us) in
    subst P (sym same) (in_front us xs ys v.0.0 whole (on_target_has xs v.0 what))

pub statement_has : (us : List Lexeme) (statement : RawStatement) → spells (grammar_of privilege_statement) us statement → HasColumns (privileges_of statement) (length us)
unfolding privilege_statement
statement_has us statement (inl (t, ws, fits, whole, spelled)) = behind_keyword us ws t (privileges_of statement) whole (grant_has ws statement spelled)
statement_has us statement (inr (t, ws, fits, whole, spelled)) = behind_keyword us ws t (privileges_of statement) whole (revoke_has ws statement spelled)

pub request_has : (us : List Lexeme) (named : Named) (target : Target) → spells (grammar_of request) us (named, target) → HasColumns named (length us)
unfolding request
request_has us named target (xs, ys, whole, what, on) = in_front us xs ys named whole (privileges_have xs named what)

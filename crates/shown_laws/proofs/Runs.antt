-- Statements that are carried out one after the other, as they add to one row.
use Rattle.std.proofs.Common.{◌≡◌, ◌∙◌, ap, sym, refl, Bool, true, false, ◌&&◌, ◌||◌, List, [], ◌∷◌, ◌++◌}
use Rattle.std.proofs.Math.Bool.{or-false}
use Rattle.std.specs.List.{flat_map, list_any}
use Rattle.acl_model.specs.Effects.{changed}
use Rattle.acl_model.specs.State.{State}
use Rattle.acl_model.specs.declared.row.Row.{Row}
use Rattle.acl_stmt.specs.declared.statement.Statement.{Statement}
use Rattle.show_grants.specs.Carried.{carried}
use Rattle.show_grants.specs.Lines.{line_if}
use Rattle.shown_laws.proofs.Tests.{or_or}

pub carried-append : (xs ys : List Statement) (st : State) → carried (xs ++ ys) st ≡ carried ys (carried xs st)
unfolding carried
carried-append [] ys st = refl
carried-append (x ∷ xs) ys st = carried-append xs ys (changed [] x st)

-- from any state, the row stands afterwards where it stood or the test holds
pub record Adds (row : Row) (ss : List Statement) (b : Bool) : Type 0 where
  pub adds : (st : State) → (carried ss st).rows row ≡ (st.rows row || b)

pub adds_same : {row : Row} {ss : List Statement} {b c : Bool} → Adds row ss b → b ≡ c → Adds row ss c
adds_same {row = row} r same = record { adds = λ st. r.adds st ∙ ap (λ t. st.rows row || t) same }

pub adds_nothing : (row : Row) → Adds row [] false
unfolding carried
adds_nothing row = record { adds = λ st. sym (or-false (st.rows row)) }

pub adds_one : (row : Row) (s : Statement) (b : Bool) → ((st : State) → (changed [] s st).rows row ≡ (st.rows row || b)) → Adds row (s ∷ []) b
unfolding carried
adds_one row s b step = record { adds = step }

pub leaves_one : (row : Row) (s : Statement) → ((st : State) → (changed [] s st).rows row ≡ st.rows row) → Adds row (s ∷ []) false
leaves_one row s step = adds_one row s false (λ st. step st ∙ sym (or-false (st.rows row)))

pub adds_append : {row : Row} {xs ys : List Statement} {b c : Bool} → Adds row xs b → Adds row ys c → Adds row (xs ++ ys) (b || c)
adds_append {row = row} {xs = xs} {ys = ys} {b = b} {c = c} r q = record {
  adds = λ st. ap (λ (s : State). s.rows row) (carried-append xs ys st) ∙ q.adds (carried xs st) ∙ ap (λ t. t || c) (r.adds st) ∙ or_or (st.rows row) b c;
}

pub adds_if : (row : Row) (t : Bool) (s : Statement) (b : Bool) → (t ≡ true → Adds row (s ∷ []) b) → Adds row (line_if t s) (t && b)
adds_if row true s b adds = adds refl
adds_if row false s b adds = adds_nothing row

pub leaves_if : (row : Row) (t : Bool) (s : Statement) → (t ≡ true → Adds row (s ∷ []) false) → Adds row (line_if t s) false
leaves_if row true s adds = adds refl
leaves_if row false s adds = adds_nothing row

module _ {K : Type 0} (row : Row) (f : K → List Statement) where
  pub adds_each : (T : K → Bool) → ((k : K) → Adds row (f k) (T k)) → (keys : List K) → Adds row (flat_map f keys) (list_any T keys)
  adds_each T adds [] = adds_nothing row
  adds_each T adds (k ∷ keys) = adds_append (adds k) (adds_each T adds keys)

  pub leaves_each : ((k : K) → Adds row (f k) false) → (keys : List K) → Adds row (flat_map f keys) false
  leaves_each adds [] = adds_nothing row
  leaves_each adds (k ∷ keys) = adds_append (adds k) (leaves_each adds keys)

-- from each state with the one property, the other holds afterwards
pub record Leads (P : State → Type 0) (ss : List Statement) (Q : State → Type 0) : Type 0 where
  pub leads : (st : State) → P st → Q (carried ss st)

pub leads_nothing : (P : State → Type 0) → Leads P [] P
unfolding carried
leads_nothing P = record { leads = λ st holds. holds }

pub leads_one : (P Q : State → Type 0) (s : Statement) → ((st : State) → P st → Q (changed [] s st)) → Leads P (s ∷ []) Q
unfolding carried
leads_one P Q s step = record { leads = step }

at_end : (Q : State → Type 0) (xs ys : List Statement) (st : State) → Q (carried ys (carried xs st)) → Q (carried (xs ++ ys) st)
at_end Q xs ys st holds = rw (carried-append xs ys st) holds

pub leads_append : (P Q R : State → Type 0) (xs ys : List Statement) → Leads P xs Q → Leads Q ys R → Leads P (xs ++ ys) R
leads_append P Q R xs ys first second = record { leads = λ st holds. at_end R xs ys st (second.leads (carried xs st) (first.leads st holds)) }

pub leads_if : (P : State → Type 0) (t : Bool) (s : Statement) → (t ≡ true → Leads P (s ∷ []) P) → Leads P (line_if t s) P
leads_if P true s leads = leads refl
leads_if P false s leads = leads_nothing P

pub leads_each : {K : Type 0} (P : State → Type 0) (f : K → List Statement) → ((k : K) → Leads P (f k) P) → (keys : List K) → Leads P (flat_map f keys) P
leads_each P f leads [] = leads_nothing P
leads_each P f leads (k ∷ keys) = leads_append P P P (f k) (flat_map f keys) (leads k) (leads_each P f leads keys)

-- where each key adds to a mark
pub marks_each : {K : Type 0} (M : Bool → State → Type 0) (f : K → List Statement) (T : K → Bool) → ((k : K) (x : Bool) → Leads (M x) (f k) (M (x || T k)))
    → (keys : List K) (x : Bool) → Leads (M x) (flat_map f keys) (M (x || list_any T keys))
marks_each M f T leads [] x = rw (or-false x) (leads_nothing (M x))
marks_each M f T leads (k ∷ keys) x =
    rw (← or_or x (T k) (list_any T keys)) (leads_append (M x) (M (x || T k)) (M ((x || T k) || list_any T keys)) (f k) (flat_map f keys) (leads k x) (marks_each M f T leads keys (x || T k)))

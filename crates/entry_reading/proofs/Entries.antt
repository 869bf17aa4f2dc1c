-- Where the first fault of an entry stands.
use Rattle.std.proofs.Common.{◌≡◌, ◌-◌, ◌≤◌, ◌&&◌, ◌==◌, ℕ, zero, suc, true, false, List, [], ◌∷◌, ◌++◌, length, inl, inr, refl, sym, ap, ◌∙◌, append-nil, length-append, arith}
use Rattle.std.specs.List.{flat_map}
use Rattle.std.proofs.lemmas.Bool.{and_from, eq-eqb, eqb-true}
use Rattle.acl_stmt.specs.Entries.{are_limits_in_order, is_complete, is_entry, may_have_limits}
use Rattle.acl_stmt.specs.Statements.{is_statement}
use Rattle.acl_stmt.specs.declared.limit.Limit.{Limit}
use Rattle.acl_stmt.specs.declared.statement.Statement.{Statement}
use Rattle.entry_bytes.specs.Faults.{ComesNext, End, EntryFields, FieldThen, IsBadAt, LimitFields, Restricts, StatementField}
use Rattle.entry_bytes.specs.Spelling.{IsHost, IsNumber, IsUser, MayStand, limit_bytes, number_bytes, privileges_bytes, schema_bytes, short_text, statement_bytes}
use Rattle.entry_reading.specs.Faults.{IsAbsent, IsFault}
use Rattle.entry_reading.specs.Fronts.{front_bytes}
use Rattle.entry_reading.specs.declared.fault.Fault.TheVariants.{Bad}
use Rattle.entry_reading.specs.declared.front.Front.{Front}

pub legal_entry : (limits : List Limit) (s : Statement) → is_statement s ≡ true → MayStand limits s → are_limits_in_order limits ≡ true → is_entry limits s ≡ true
unfolding is_entry
legal_entry limits s kept stands order =
    and_from (is_statement s && is_complete s && are_limits_in_order limits) (may_have_limits limits s)
    (and_from (is_statement s && is_complete s) (are_limits_in_order limits) (and_from (is_statement s) (is_complete s) kept stands.complete) order)
    stands.limited

pub no_statement : (limits : List Limit) (bytes bad : List ℕ) → IsAbsent statement_bytes (MayStand limits) bytes bad → StatementField limits bytes bad
no_statement limits bytes bad absent = inl absent

pub too_many : (limits : List Limit) (bytes rest : List ℕ) (s : Statement) → MayStand limits s → bytes ≡ statement_bytes s ++ rest → (rest ≡ [] → ⊥) → StatementField limits bytes rest
too_many limits bytes rest s stands found some = inr (s, rest, stands, found, (some, refl))

pub nothing_left : (bytes : List ℕ) → (length bytes == 0) ≡ true → bytes ≡ []
nothing_left [] e = refl
nothing_left (b ∷ bs) e = let none : length (b ∷ bs) ≡ 0 = eqb-true _ _ e in absurd (omega (arith, none))

pub some_left : (bytes : List ℕ) → (length bytes == 0) ≡ false → bytes ≡ [] → ⊥
some_left bytes e same = let none : (length bytes == 0) ≡ true = eq-eqb (length bytes) 0 (ap length same) in absurd (cc)

-- the fields of an entry, one behind the other
pub spelled : (front : Front) (limits : List Limit) (s : Statement) (bytes one two rest : List ℕ) → bytes ≡ front_bytes front one → length limits ≡ front.count
    → one ≡ flat_map limit_bytes limits ++ two → two ≡ statement_bytes s ++ rest → rest ≡ []
    → bytes
    ≡ number_bytes front.caller.0
    ++ (number_bytes front.number ++ (short_text front.by.user ++ (short_text front.by.host ++ (number_bytes (length limits) ++ (flat_map limit_bytes limits ++ statement_bytes s)))))
spelled front limits s bytes one two rest found many found' found'' none =
    let left : one ≡ flat_map limit_bytes limits ++ statement_bytes s =
    found' ∙ ap (λ l. flat_map limit_bytes limits ++ l) (found'' ∙ ap (λ l. statement_bytes s ++ l) none ∙ append-nil (statement_bytes s)) in
    found ∙ ap (front_bytes front) left
    ∙ ap (λ n. number_bytes front.caller.0 ++ (number_bytes front.number ++ (short_text front.by.user ++ (short_text front.by.host ++ (number_bytes n ++ (flat_map limit_bytes limits ++ statement_bytes s)))))) (sym many)

-- ---- what is left is no longer than all

abbrev IsWithin : (List ℕ → List ℕ → Type 0) → Type 0
IsWithin Fields = (bytes bad : List ℕ) → Fields bytes bad → length bad ≤ length bytes

within_field : {A : Type 0} (spelling : A → List ℕ) (Fits : A → Type 0) (After : A → List ℕ → List ℕ → Type 0) → ((a : A) → IsWithin (After a))
    → IsWithin (FieldThen spelling Fits After)
within_field spelling Fits After later bytes bad (inl (none, at)) = omega (arith, ap length at)
within_field spelling Fits After later bytes bad (inr (a, rest, fits, e, after)) =
    omega (arith, ap length e, length-append (spelling a) rest, later a rest bad after)

within_end : IsWithin End
within_end bytes bad (some, at) = omega (arith, ap length at)

within_statement : (limits : List Limit) → IsWithin (StatementField limits)
within_statement limits = within_field statement_bytes (MayStand limits) (λ statement. End) (λ statement. within_end)

within_limits : (count : ℕ) (limits : List Limit) → IsWithin (LimitFields count limits)
within_limits zero limits = within_statement limits
within_limits (suc more) limits =
    within_field privileges_bytes Restricts (λ privileges. FieldThen schema_bytes (ComesNext limits privileges) (λ limit. LimitFields more (limits ++ limit ∷ [])))
    (λ privileges. within_field schema_bytes (ComesNext limits privileges) (λ limit. LimitFields more (limits ++ limit ∷ [])) (λ limit. within_limits more (limits ++ limit ∷ [])))

abbrev CountField : List ℕ → List ℕ → Type 0
CountField = FieldThen number_bytes IsNumber (λ count. LimitFields count [])

abbrev HostField : List ℕ → List ℕ → Type 0
HostField = FieldThen short_text IsHost (λ host. CountField)

abbrev UserField : List ℕ → List ℕ → Type 0
UserField = FieldThen short_text IsUser (λ user. HostField)

abbrev NumberField : List ℕ → List ℕ → Type 0
NumberField = FieldThen number_bytes IsNumber (λ number. UserField)

within_entry : IsWithin EntryFields
unfolding EntryFields
within_entry =
    within_field number_bytes IsNumber (λ caller. NumberField) (λ caller.
    within_field number_bytes IsNumber (λ number. UserField) (λ number.
    within_field short_text IsUser (λ user. HostField) (λ user.
    within_field short_text IsHost (λ host. CountField) (λ host.
    within_field number_bytes IsNumber (λ count. LimitFields count []) (λ count. within_limits count [])))))

pub left_within : (bytes : List ℕ) (left : ℕ) → IsFault (EntryFields bytes) (Bad left) → left ≤ length bytes
left_within bytes left (bad, fields, many) = omega (arith, many, within_entry bytes bad fields)

pub bad_at : (bytes : List ℕ) (left offset : ℕ) → IsFault (EntryFields bytes) (Bad left) → offset ≡ length bytes - left → IsBadAt bytes offset
bad_at bytes left offset (bad, fields, many) is = (bad, fields, omega (arith, is, many, within_entry bytes bad fields))

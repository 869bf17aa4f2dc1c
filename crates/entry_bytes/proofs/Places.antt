-- Bytes have one first fault at most, and those of an entry have none.
use Rattle.std.proofs.Common.{◌≡◌, ℕ, zero, suc, true, List, [], ◌∷◌, ◌++◌, length, inl, inr, refl, sym, ap, subst, ◌∙◌, append-nil, append_assoc, arith}
use Rattle.std.specs.List.{AllByRecursion, flat_map}
use Rattle.std.specs.Ordering.{is_lt}
use Rattle.std.proofs.lemmas.Bool.{and_parts}
use Rattle.acl_names.specs.Text.{text_cmp}
use Rattle.acl_stmt.specs.Entries.{are_limits_in_order, is_complete, is_entry, may_have_limits}
use Rattle.acl_stmt.specs.declared.entry.Entry.{Entry}
use Rattle.acl_stmt.specs.declared.limit.Limit.{Limit}
use Rattle.priv_sets.specs.declared.static_set.Static.{Static}
use Rattle.entry_bytes.proofs.Once.{IsReadOnce, number_once}
use Rattle.entry_bytes.proofs.Parts.{bytes_with, host_once, limit_once, limit_regrouped, privileges_once, statement_once, user_once, with_behind}
use Rattle.entry_bytes.specs.Faults.{ComesNext, End, EntryFields, FieldThen, IsBadAt, LimitFields, Restricts, StatementField}
use Rattle.entry_bytes.specs.Spelling.{HasBytes, IsHost, IsNumber, IsSchema, IsUser, MayStand, bytes_of, limit_bytes, number_bytes, privileges_bytes, schema_bytes, short_text, statement_bytes}

-- behind a field that keeps its rules the fault stands among what comes after
pub goes_on : {A : Type 0} (spelling : A → List ℕ) (Fits : A → Type 0) (After : A → List ℕ → List ℕ → Type 0) → IsReadOnce spelling Fits
    → (a : A) (rest bad : List ℕ) → Fits a → FieldThen spelling Fits After (spelling a ++ rest) bad → After a rest bad
goes_on spelling Fits After once a rest bad fits (inl (none, at)) = absurd (none a rest fits refl)
goes_on spelling Fits After once a rest bad fits (inr (b, rest', fits', e, after)) =
    let same = once a b rest rest' fits fits' e in
    subst (λ v. After v rest bad) (sym same.0) (subst (λ l. After b l bad) (sym same.1) after)

abbrev IsOneFault : (List ℕ → List ℕ → Type 0) → Type 0
IsOneFault Fields = (bytes x y : List ℕ) → Fields bytes x → Fields bytes y → x ≡ y

one_fault : {A : Type 0} (spelling : A → List ℕ) (Fits : A → Type 0) (After : A → List ℕ → List ℕ → Type 0) → IsReadOnce spelling Fits
    → ((a : A) → IsOneFault (After a)) → IsOneFault (FieldThen spelling Fits After)
one_fault spelling Fits After once later bytes x y (inl (none, at)) (inl (none', at')) = at ∙ sym at'
one_fault spelling Fits After once later bytes x y (inl (none, at)) (inr (a, rest, fits, e, after)) = absurd (none a rest fits e)
one_fault spelling Fits After once later bytes x y (inr (a, rest, fits, e, after)) k =
    later a rest x y after (goes_on spelling Fits After once a rest y fits (subst (λ l. FieldThen spelling Fits After l y) e k))

end_once : IsOneFault End
end_once bytes x y (some, at) (some', at') = at ∙ sym at'

statement_fault : (limits : List Limit) → IsOneFault (StatementField limits)
statement_fault limits = one_fault statement_bytes (MayStand limits) (λ statement. End) (statement_once limits) (λ statement. end_once)

limits_fault : (count : ℕ) (limits : List Limit) → IsOneFault (LimitFields count limits)
limits_fault zero limits = statement_fault limits
limits_fault (suc more) limits =
    one_fault privileges_bytes Restricts (λ privileges. FieldThen schema_bytes (ComesNext limits privileges) (λ limit. LimitFields more (limits ++ limit ∷ []))) privileges_once
    (λ privileges. one_fault schema_bytes (ComesNext limits privileges) (λ limit. LimitFields more (limits ++ limit ∷ [])) (limit_once limits privileges) (λ limit. limits_fault more (limits ++ limit ∷ [])))

abbrev CountField : List ℕ → List ℕ → Type 0
CountField = FieldThen number_bytes IsNumber (λ count. LimitFields count [])

abbrev HostField : List ℕ → List ℕ → Type 0
HostField = FieldThen short_text IsHost (λ host. CountField)

abbrev UserField : List ℕ → List ℕ → Type 0
UserField = FieldThen short_text IsUser (λ user. HostField)

abbrev NumberField : List ℕ → List ℕ → Type 0
NumberField = FieldThen number_bytes IsNumber (λ number. UserField)

entry_fault : IsOneFault EntryFields
unfolding EntryFields
entry_fault =
    one_fault number_bytes IsNumber (λ caller. NumberField) number_once (λ caller.
    one_fault number_bytes IsNumber (λ number. UserField) number_once (λ number.
    one_fault short_text IsUser (λ user. HostField) user_once (λ user.
    one_fault short_text IsHost (λ host. CountField) host_once (λ host.
    one_fault number_bytes IsNumber (λ count. LimitFields count []) number_once (λ count. limits_fault count [])))))

pub one_offset : (bytes : List ℕ) (offset other : ℕ) → IsBadAt bytes offset → IsBadAt bytes other → offset ≡ other
one_offset bytes offset other (bad, fields, at) (bad', fields', at') =
    let same = ap length (entry_fault bytes bad bad' fields fields') in
    omega (arith, same)

-- ---- the bytes of an entry

front_in_order : (a b : List Limit) → are_limits_in_order (a ++ b) ≡ true → are_limits_in_order a ≡ true
front_in_order [] b is = refl
front_in_order (first ∷ []) b is = refl
front_in_order (first ∷ second ∷ rest) b is =
    let parts = and_parts (is_lt (text_cmp first.schema second.schema)) (are_limits_in_order ((second ∷ rest) ++ b)) is in
    let later = front_in_order (second ∷ rest) b parts.1 in
    let here = parts.0 in
    cc

limits_go : (limits before : List Limit) (rest bad : List ℕ) → AllByRecursion (λ limit. IsSchema limit.schema) limits → are_limits_in_order (before ++ limits) ≡ true
    → LimitFields (length limits) before (flat_map limit_bytes limits ++ rest) bad → StatementField (before ++ limits) rest bad
limits_go [] before rest bad schemas order fields = subst (λ l. StatementField l rest bad) (sym (append-nil before)) fields
limits_go (limit ∷ limits) before rest bad schemas order fields =
    let with_this : List Limit = before ++ limit ∷ [] in
    let grouped : with_this ++ limits ≡ before ++ limit ∷ limits = append_assoc before (limit ∷ []) limits in
    let order' : are_limits_in_order (with_this ++ limits) ≡ true = ap are_limits_in_order grouped ∙ order in
    let next : ComesNext before limit.privileges limit = record { on = refl; schema = schemas.0; behind = front_in_order with_this limits order' } in
    let After : Static → List ℕ → List ℕ → Type 0 = λ privileges. FieldThen schema_bytes (ComesNext before privileges) (λ l. LimitFields (length limits) (before ++ l ∷ [])) in
    let split : FieldThen privileges_bytes Restricts After (privileges_bytes limit.privileges ++ (schema_bytes limit ++ (flat_map limit_bytes limits ++ rest))) bad =
    subst (λ l. FieldThen privileges_bytes Restricts After l bad) (limit_regrouped limit (flat_map limit_bytes limits) rest) fields in
    let schema = goes_on privileges_bytes Restricts After privileges_once limit.privileges _ bad limit.restricts split in
    let later = goes_on schema_bytes (ComesNext before limit.privileges) (λ l. LimitFields (length limits) (before ++ l ∷ [])) (limit_once before limit.privileges) limit _ bad next schema in
    subst (λ l. StatementField l rest bad) grouped (limits_go limits with_this rest bad schemas.1 order' later)

record Rules (entry : Entry) : Type 0 where
  order : are_limits_in_order entry.limits ≡ true
  stands : MayStand entry.limits entry.statement

rules_of : (entry : Entry) → HasBytes entry → Rules entry
unfolding is_entry
rules_of entry has =
    let last = and_parts _ (may_have_limits entry.limits entry.statement) entry.legal in
    let third = and_parts _ (are_limits_in_order entry.limits) last.0 in
    let second = and_parts _ (is_complete entry.statement) third.0 in
    record { order = third.1; stands = record { text = has.text; complete = second.1; limited = last.1 } }

no_fault : (entry : Entry) (bad : List ℕ) → HasBytes entry → EntryFields (bytes_with entry []) bad → ⊥
unfolding EntryFields
no_fault entry bad has fields =
    let rules = rules_of entry has in
    let caller = goes_on number_bytes IsNumber (λ caller. NumberField) number_once entry.caller.0 _ bad has.caller fields in
    let number = goes_on number_bytes IsNumber (λ number. UserField) number_once entry.number _ bad has.number caller in
    let user = goes_on short_text IsUser (λ user. HostField) user_once entry.by.user _ bad has.user number in
    let host = goes_on short_text IsHost (λ host. CountField) host_once entry.by.host _ bad has.host user in
    let count = goes_on number_bytes IsNumber (λ count. LimitFields count []) number_once (length entry.limits) _ bad has.count host in
    let limits = limits_go entry.limits [] _ bad has.schemas rules.order count in
    let end = goes_on statement_bytes (MayStand entry.limits) (λ statement. End) (statement_once entry.limits) entry.statement [] bad rules.stands limits in
    end.0 refl

pub spelled_well : (entry : Entry) (offset : ℕ) → HasBytes entry → IsBadAt (bytes_of entry) offset → ⊥
spelled_well entry offset has (bad, fields, at) =
    no_fault entry bad has (subst (λ l. EntryFields l bad) (sym (append-nil (bytes_of entry)) ∙ with_behind entry []) fields)

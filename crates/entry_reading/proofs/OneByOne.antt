-- Limits one behind the other.
use Rattle.std.proofs.Common.{◌≡◌, ◌&&◌, ◌+◌, ◌-◌, ◌<◌, ◌≤◌, ℕ, suc, true, false, List, [], ◌∷◌, ◌++◌, length, inl, inr, refl, sym, ap, subst, ◌∙◌, append-nil, append_assoc, length-append, arith}
use Rattle.std.specs.List.{AllByRecursion, flat_map}
use Rattle.std.proofs.lemmas.Bool.{and_from, and_parts}
use Rattle.std.proofs.lemmas.Grind.{flat_map-append}
use Rattle.acl_stmt.specs.Entries.{are_limits_in_order}
use Rattle.acl_stmt.specs.declared.limit.Limit.{Limit}
use Rattle.entry_bytes.proofs.Names.{schema_short}
use Rattle.entry_bytes.proofs.Once.{short_once}
use Rattle.entry_bytes.specs.Faults.{ComesNext, LimitFields, Restricts, StatementField}
use Rattle.entry_bytes.specs.Spelling.{IsSchema, limit_bytes, privileges_bytes, schema_bytes, short_text}
use Rattle.entry_fields.proofs.Tests.{in_order_with}
use Rattle.entry_fields.specs.Rules.{is_behind}
use Rattle.entry_reading.proofs.Faults.{deeper}
use Rattle.entry_reading.specs.Faults.{IsAbsent, IsFault}
use Rattle.entry_reading.specs.declared.fault.Fault.{Fault}
use Rattle.priv_sets.specs.declared.static_set.Static.{Static}

-- where the next limit has its fault, however many come behind it
abbrev pub NextFault : List Limit → List ℕ → List ℕ → Type 0
NextFault limits bytes bad = (more : ℕ) → LimitFields (suc more) limits bytes bad

pub no_privileges : (limits : List Limit) (bytes bad : List ℕ) → IsAbsent privileges_bytes Restricts bytes bad → NextFault limits bytes bad
no_privileges limits bytes bad absent more = inl absent

pub no_schema : (limits : List Limit) (privileges : Static) (bytes behind : List ℕ) → Restricts privileges → bytes ≡ privileges_bytes privileges ++ behind
    → (bad : List ℕ) → IsAbsent short_text IsSchema behind bad → NextFault limits bytes bad
no_schema limits privileges bytes behind is found bad absent more =
    inr (privileges, behind, is, found, inl (λ value rest fits e. absent.0 value.schema rest fits.schema e, absent.1))

pub not_behind : (limits : List Limit) (privileges : Static) (bytes behind schema rest : List ℕ) → Restricts privileges → bytes ≡ privileges_bytes privileges ++ behind
    → behind ≡ short_text schema ++ rest → IsSchema schema → is_behind limits schema ≡ false → NextFault limits bytes behind
not_behind limits privileges bytes behind schema rest is found found' within not more =
    inr (privileges, behind, is, found, inl (none, refl))
  where
    none : (value : Limit) (after : List ℕ) → ComesNext limits privileges value → behind ≡ schema_bytes value ++ after → ⊥
    none value after fits e =
        let same : schema ≡ value.schema = (short_once schema value.schema rest after (schema_short schema within).short (schema_short value.schema fits.schema).short (sym found' ∙ e)).0 in
        let order : (are_limits_in_order limits && is_behind limits value.schema) ≡ true = sym (in_order_with limits value) ∙ fits.behind in
        let last : is_behind limits value.schema ≡ true = (and_parts (are_limits_in_order limits) _ order).1 in
        let wrong : is_behind limits schema ≡ true = ap (is_behind limits) same ∙ last in
        absurd (cc)

pub comes_next : (limits : List Limit) (limit : Limit) → IsSchema limit.schema → are_limits_in_order limits ≡ true → is_behind limits limit.schema ≡ true
    → ComesNext limits limit.privileges limit
comes_next limits limit schema order behind = record {
  on = refl;
  schema = schema;
  behind = in_order_with limits limit ∙ and_from (are_limits_in_order limits) (is_behind limits limit.schema) order behind;
}

-- ---- all of them

-- so many of the limits are read, and these bytes are left
pub record IsSoFar (count done : ℕ) (bytes : List ℕ) (limits : List Limit) (rest : List ℕ) : Type 0 where
  pub found : bytes ≡ flat_map limit_bytes limits ++ rest
  pub many : length limits ≡ done
  pub within : done ≤ count
  pub schemas : AllByRecursion (λ limit. IsSchema limit.schema) limits
  pub order : are_limits_in_order limits ≡ true
  pub behind : (more : ℕ) → count ≡ done + more → (bad : List ℕ) → LimitFields more limits rest bad → LimitFields count [] bytes bad

pub none_read : (count : ℕ) (bytes : List ℕ) → IsSoFar count 0 bytes [] bytes
none_read count bytes = record {
  found = refl;
  many = refl;
  schemas = tt;
  order = refl;
  within = omega arith;
  behind = λ more same bad fields. let all : more ≡ count = omega (arith, same) in subst (λ n. LimitFields n [] bytes bad) all fields;
}

pub faulty_next : (count done : ℕ) (bytes : List ℕ) (limits : List Limit) (rest : List ℕ) (fault : Fault) → done < count → IsSoFar count done bytes limits rest
    → IsFault (NextFault limits rest) fault → IsFault (LimitFields count [] bytes) fault
faulty_next count done bytes limits rest fault lt so_far is =
    deeper (NextFault limits rest) (LimitFields count [] bytes) fault (λ bad at. so_far.behind (suc (count - done - 1)) (omega (arith, lt)) bad (at (count - done - 1))) is

all_with : (limits : List Limit) (limit : Limit) → AllByRecursion (λ l. IsSchema l.schema) limits → IsSchema limit.schema → AllByRecursion (λ l. IsSchema l.schema) (limits ++ limit ∷ [])
all_with [] limit all schema = (schema, tt)
all_with (first ∷ limits) limit all schema = (all.0, all_with limits limit all.1 schema)

pub one_more : (count done : ℕ) (bytes : List ℕ) (limits : List Limit) (rest : List ℕ) (limit : Limit) (behind : List ℕ) → done < count → IsSoFar count done bytes limits rest
    → rest ≡ limit_bytes limit ++ behind → ComesNext limits limit.privileges limit → IsSoFar count (done + 1) bytes (limits ++ limit ∷ []) behind
one_more count done bytes limits rest limit behind lt so_far found next = record {
  found =
      so_far.found ∙ ap (λ l. flat_map limit_bytes limits ++ l) found
      ∙ sym (append_assoc (flat_map limit_bytes limits) (limit_bytes limit) behind)
      ∙ ap (λ l. l ++ behind) (sym (flat_map-append limit_bytes limits (limit ∷ []) ∙ ap (λ l. flat_map limit_bytes limits ++ l) (append-nil (limit_bytes limit))));
  many = length-append limits (limit ∷ []) ∙ ap (λ n. n + 1) so_far.many;
  within = omega (arith, lt);
  schemas = all_with limits limit so_far.schemas next.schema;
  order = next.behind;
  behind = λ more same bad fields.
      so_far.behind (suc more) (omega (arith, same)) bad
      (inr (
        limit.privileges,
        schema_bytes limit ++ behind,
        limit.restricts,
        found ∙ append_assoc (privileges_bytes limit.privileges) (schema_bytes limit) behind,
        inr (limit, behind, next, refl, fields),
      ));
}

pub all_read : (count done : ℕ) (bytes : List ℕ) (limits : List Limit) (rest : List ℕ) → count ≤ done → IsSoFar count done bytes limits rest
    → (bad : List ℕ) → StatementField limits rest bad → LimitFields count [] bytes bad
all_read count done bytes limits rest end so_far bad field = so_far.behind 0 (omega (arith, end, so_far.within)) bad field

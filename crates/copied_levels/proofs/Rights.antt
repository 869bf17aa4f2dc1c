-- The rights by the copies are those of the states where they were read.
use Rattle.std.proofs.Common.{◌≡◌, ◌∙◌, ap, sym, refl, ℕ, ◌<◌, Bool, true, false, ◌&&◌, ◌||◌, not, IsTrue, List, Option, Some, None, inl, inr}
use Rattle.std.proofs.lemmas.Bool.{cases_lt, true≢false}
use Rattle.std.specs.Option.{option_map}
use Rattle.acl_model.specs.Rights.{holds_globally, holds_on_schema, is_restricted, may_grant_dynamic}
use Rattle.acl_model.specs.Verdict.{Reading}
use Rattle.acl_model.specs.Words.{limited}
use Rattle.acl_names.proofs.SameAuth.{same_auth_itself, text_eq_itself}
use Rattle.acl_names.specs.AuthId.{same_auth}
use Rattle.acl_names.specs.Text.{text_eq}
use Rattle.copied_levels.specs.Copied.{copied, is_masked}
use Rattle.priv_map.specs.Readings.{IsCurrentRead, IsReadAt, current_of}
use Rattle.priv_map.specs.declared.acting.Acting.{Acting}
use Rattle.priv_map.specs.declared.schema_held.SchemaHeld.{SchemaHeld}
use Rattle.priv_sets.proofs.LevelLemmas.{no_level_above}
use Rattle.priv_sets.specs.DynamicSet.{grants_dynamic, holds_dynamic}
use Rattle.priv_sets.specs.Levels.{has_level}
use Rattle.priv_sets.specs.StaticSet.{holds}
use Rattle.priv_sets.specs.declared.level.Level.TheVariants.{Schema}
use Rattle.priv_sets.specs.declared.privilege.Privilege.TheVariants.{Dynamic, Plain}

-- what one account has alone
alone : (own held : Bool) → own ≡ true → ((own && held) || false) ≡ held
alone true true is = refl
alone true false is = refl
alone false held is = absurd (cc)

pub own_plain : (acting : Acting) (p : ℕ) → holds_globally (copied acting).state (copied acting).sources (Plain p) ≡ holds acting.held.plain p
own_plain acting p = alone (same_auth acting.account acting.account) (holds acting.held.plain p) (same_auth_itself acting.account)

pub own_dynamic : (acting : Acting) (d : ℕ) → holds_globally (copied acting).state (copied acting).sources (Dynamic d) ≡ holds_dynamic acting.held.dynamic d
own_dynamic acting d = alone (same_auth acting.account acting.account) (holds_dynamic acting.held.dynamic d) (same_auth_itself acting.account)

own_grantable : (acting : Acting) (d : ℕ) → may_grant_dynamic (copied acting).state (copied acting).sources d ≡ grants_dynamic acting.held.dynamic d
own_grantable acting d = alone (same_auth acting.account acting.account) (grants_dynamic acting.held.dynamic d) (same_auth_itself acting.account)

own_schema : (acting : Acting) (schema : List ℕ) (p : ℕ) → holds_on_schema (copied acting).state (copied acting).sources schema p ≡ is_masked acting.current schema p
own_schema acting schema p = alone (same_auth acting.account acting.account) (is_masked acting.current schema p) (same_auth_itself acting.account)

pub same_plain : (acting : Acting) (login used : Reading) (p : ℕ) → IsReadAt acting login used → p < 31 →
    holds_globally (copied acting).state (copied acting).sources (Plain p) ≡ holds_globally login.state login.sources (Plain p)
same_plain acting login used p read below = own_plain acting p ∙ read.plain p below

pub same_dynamic : (acting : Acting) (login used : Reading) (d : ℕ) → IsReadAt acting login used → d < 20 →
    holds_globally (copied acting).state (copied acting).sources (Dynamic d) ≡ holds_globally login.state login.sources (Dynamic d)
same_dynamic acting login used d read below = own_dynamic acting d ∙ read.dynamic d below

-- what may be granted is held
granted_held : (held grants globally may : Bool) → held ≡ globally → grants ≡ (globally && may) → (held && grants) ≡ (globally && may)
granted_held true grants true may held_is grants_is = grants_is
granted_held false grants false may held_is grants_is = refl
granted_held true grants false may held_is grants_is = absurd (cc)
granted_held false grants true may held_is grants_is = absurd (cc)

pub same_grantable : (acting : Acting) (login used : Reading) (d : ℕ) → IsReadAt acting login used → d < 20 →
    (holds_globally (copied acting).state (copied acting).sources (Dynamic d) && may_grant_dynamic (copied acting).state (copied acting).sources d)
    ≡ (holds_globally login.state login.sources (Dynamic d) && may_grant_dynamic login.state login.sources d)
same_grantable acting login used d read below =
    ap (λ held. held && may_grant_dynamic (copied acting).state (copied acting).sources d) (own_dynamic acting d)
    ∙ ap (λ grants. holds_dynamic acting.held.dynamic d && grants) (own_grantable acting d)
    ∙ granted_held (holds_dynamic acting.held.dynamic d) (grants_dynamic acting.held.dynamic d) (holds_globally login.state login.sources (Dynamic d))
    (may_grant_dynamic login.state login.sources d) (read.dynamic d below) (read.grantable d below)

-- ---- restrictions

level_below : (p : ℕ) → IsTrue (has_level Schema p) → p < 31
level_below p level = elim (cases_lt p 31) [
  | inl below ↦ below
  | inr above ↦ absurd (true≢false (sym level ∙ no_level_above Schema p above))
]

-- the copies of one account, where what is restricted is held
one_restricted : (own held restricted : Bool) → own ≡ true → (restricted ≡ true → held ≡ true) →
    (((own && held) || false) && ((not (own && held) || (own && restricted)) && true)) ≡ restricted
one_restricted false held restricted is kept = absurd (cc)
one_restricted true true true is kept = refl
one_restricted true true false is kept = refl
one_restricted true false true is kept = let wrong = kept refl in absurd (cc)
one_restricted true false false is kept = refl

both_hold : (globally all : Bool) → (globally && all) ≡ true → globally ≡ true
both_hold true all is = refl
both_hold false all is = absurd (cc)

pub same_restricted : (acting : Acting) (login used : Reading) (schema : List ℕ) (p : ℕ) → IsReadAt acting login used → IsTrue (has_level Schema p) →
    is_restricted (copied acting).state (copied acting).sources p schema ≡ is_restricted login.state login.sources p schema
same_restricted acting login used schema p read level =
    one_restricted (same_auth acting.account acting.account) (holds acting.held.plain p) (limited acting.held.restrictions schema p) (same_auth_itself acting.account) kept
    ∙ read.restricted schema p level
  where
    kept : limited acting.held.restrictions schema p ≡ true → holds acting.held.plain p ≡ true
    kept is = read.plain p (level_below p level) ∙ both_hold (holds_globally login.state login.sources (Plain p)) _ (sym (read.restricted schema p level) ∙ is)

-- ---- the current schema

masked : (current : Option SchemaHeld) (used : Reading) (schema : List ℕ) (p : ℕ) → IsCurrentRead current used → option_map (λ held. held.schema) current ≡ Some schema →
    p < 31 → is_masked current schema p ≡ holds_on_schema used.state used.sources schema p
masked None used schema p read is below = absurd (cc)
masked (Some held) used schema p read is below =
    let same : held.schema ≡ schema = cc in
    ap (λ (name : List ℕ). text_eq held.schema name && holds held.mask p) (sym same)
    ∙ ap (λ own. own && holds held.mask p) (text_eq_itself held.schema)
    ∙ read p below ∙ ap (λ (name : List ℕ). holds_on_schema used.state used.sources name p) same

pub same_schema : (acting : Acting) (login used : Reading) (schema : List ℕ) (p : ℕ) → IsReadAt acting login used → current_of acting ≡ Some schema → p < 31 →
    holds_on_schema (copied acting).state (copied acting).sources schema p ≡ holds_on_schema used.state used.sources schema p
same_schema acting login used schema p read is below = own_schema acting schema p ∙ masked acting.current used schema p read.current is below

-- ---- the copies are copies of what they say

reads_itself : (acting : Acting) (current : Option SchemaHeld) → acting.current ≡ current → IsCurrentRead current (copied acting)
reads_itself acting None is = tt
reads_itself acting (Some held) is = λ p below.
    sym (own_schema acting held.schema p ∙ ap (λ (current : Option SchemaHeld). is_masked current held.schema p) is
    ∙ ap (λ own. own && holds held.mask p) (text_eq_itself held.schema))

pub read_from_copies : (acting : Acting) (login used : Reading) → IsReadAt acting login used → IsReadAt acting (copied acting) (copied acting)
read_from_copies acting login used read = record {
  plain = λ p below. sym (own_plain acting p);
  dynamic = λ d below. sym (own_dynamic acting d);
  grantable = λ d below. read.grantable d below ∙ sym (same_grantable acting login used d read below);
  restricted = λ schema p level. read.restricted schema p level ∙ sym (same_restricted acting login used schema p read level);
  current = reads_itself acting acting.current refl;
}

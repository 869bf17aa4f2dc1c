-- No list of tokens is spelled both as a statement that names privileges and as one that names none: where roles are granted
-- or revoked, `@`, TO or FROM stands before any ON, and where privileges are, ON stands before these.
use Rattle.std.proofs.Common.{◌&&◌, ◌||◌, ◌++◌, ◌⊎◌, not, Bool, IsTrue, true, false, List, [], ◌∷◌, codes, inl, inr, refl, ◌∙◌, ap}
use Rattle.std.proofs.lemmas.Bool.{or_cases}
use Rattle.std.proofs.lemmas.List.Folds.{list_all-append}
use Rattle.std.specs.List.{list_all}
use Rattle.acl_grammar.specs.Spelling.{Disjoint, separated, spells}
use Rattle.acl_names.specs.declared.auth.AuthId.{AuthId}
use Rattle.acl_stmt.specs.declared.statement.Statement.{Statement}
use Rattle.acl_stmt.specs.declared.target.Target.{Target}
use Rattle.grant_parse.specs.Statements.{privilege_rule, user_rule}
use Rattle.grant_parse.proofs.Disjointness.{free_lacks, lacks, starts, starts_apart, within_is}
use Rattle.grant_words.proofs.Apart.{are_apart, both_left, both_right, or_first, or_second}
use Rattle.grant_words.specs.Classes.{Class, is, word}
use Rattle.grant_words.specs.Classes.Class.{keyword, mark}
use Rattle.grant_words.specs.Lists.{comma, roles}
use Rattle.grant_words.specs.Names.{at_host, ident, role, role_class}
use Rattle.grant_words.proofs.Sanity.{is_of_one, one_apart}
use Rattle.grant_words.specs.Syntax.{grammar_of}
use Rattle.grant_words.specs.declared.lexeme.Lexeme.{Lexeme}
use Rattle.priv_items.specs.declared.item.Named.{Named}
use Rattle.priv_sets.specs.DynamicNames.{dynamic_names}
use Rattle.priv_sets.specs.PlainNames.{plain_names}
use Rattle.privilege_statements.specs.PrivilegeItems.{column_names, item, maybe_columns, maybe_privileges as maybe_all, privilege_item, privileges, static_privilege}
use Rattle.privilege_statements.specs.PrivilegeNames.{alter_names, create_names, create_others, drop_names, dynamic_numbers, lone_numbers, other_name, replication_names, show_names, static_name}
use Rattle.privilege_statements.specs.Statements.{grant, privilege_statement, privileges_on_target, revoke as revoke_privileges}
use Rattle.privilege_statements.specs.declared.statement.RawStatement.{RawStatement}
use Rattle.grant_lex.specs.Reserved.{reserved_words}
use Rattle.user_statements.specs.Statements.{grant_roles, maybe_privileges, on_grants, revoke, revoke_all, revoke_roles, user_statement}

-- ON
abbrev on : Class
on = word (codes "ON")

-- TO or FROM
abbrev to_or_from : Class
to_or_from = keyword (codes "TO" ∷ codes "FROM" ∷ [])

-- `@`, TO or FROM
abbrev at_to_from : Lexeme → Bool
at_to_from t = is (mark 64) t || is to_or_from t

abbrev is_on : Lexeme → Bool
is_on t = is on t

-- a token that passes the first test stands before any that passes the second
abbrev leads : (Lexeme → Bool) → (Lexeme → Bool) → List Lexeme → Bool
leads p q [] = false
leads p q (t ∷ ts) = p t || (not (q t) && leads p q ts)

-- none passes
abbrev none : (Lexeme → Bool) → List Lexeme → Bool
none p ts = list_all (λ t. not (p t)) ts

both_true : (a b : Bool) → IsTrue a → IsTrue b → IsTrue (a && b)
both_true true b h k = k
both_true false b h k = absurd (cc)

both_false : (a : Bool) → IsTrue (not a) → IsTrue a → ⊥
both_false true h k = cc
both_false false h k = cc

-- not both may lead
leads_one : (p q : Lexeme → Bool) → ((t : Lexeme) → IsTrue (p t) → IsTrue (q t) → ⊥) → (ts : List Lexeme) → IsTrue (leads p q ts) → IsTrue (leads q p ts) → ⊥
leads_one p q apart [] h k = cc
leads_one p q apart (t ∷ ts) h k =
    step (or_cases (p t) (not (q t) && leads p q ts) h) (or_cases (q t) (not (p t) && leads q p ts) k) (leads_one p q apart ts)
  where
    step : (IsTrue (p t) ⊎ IsTrue (not (q t) && leads p q ts)) → (IsTrue (q t) ⊎ IsTrue (not (p t) && leads q p ts))
        → (IsTrue (leads p q ts) → IsTrue (leads q p ts) → ⊥) → ⊥
    step (inl a) (inl b) further = apart t a b
    step (inl a) (inr b) further = both_false (p t) (both_left (not (p t)) (leads q p ts) b) a
    step (inr a) (inl b) further = both_false (q t) (both_left (not (q t)) (leads p q ts) a) b
    step (inr a) (inr b) further = further (both_right (not (q t)) (leads p q ts) a) (both_right (not (p t)) (leads q p ts) b)

leads_here : (p q : Lexeme → Bool) (t : Lexeme) (ts : List Lexeme) → IsTrue (p t) → IsTrue (leads p q (t ∷ ts))
leads_here p q t ts h = or_first (p t) (not (q t) && leads p q ts) h

leads_past : (p q : Lexeme → Bool) (t : Lexeme) (ts : List Lexeme) → IsTrue (not (q t)) → IsTrue (leads p q ts) → IsTrue (leads p q (t ∷ ts))
leads_past p q t ts h k = or_second (p t) (not (q t) && leads p q ts) (both_true (not (q t)) (leads p q ts) h k)

leads_behind : (p q : Lexeme → Bool) (us ws : List Lexeme) → IsTrue (none q us) → IsTrue (leads p q ws) → IsTrue (leads p q (us ++ ws))
leads_behind p q [] ws h k = k
leads_behind p q (t ∷ us) ws h k =
    leads_past p q t (us ++ ws) (both_left (not (q t)) (none q us) h) (leads_behind p q us ws (both_right (not (q t)) (none q us) h) k)

leads_front : (p q : Lexeme → Bool) (us ws : List Lexeme) → IsTrue (leads p q us) → IsTrue (leads p q (us ++ ws))
leads_front p q [] ws h = absurd (cc)
leads_front p q (t ∷ us) ws h = step (or_cases (p t) (not (q t) && leads p q us) h) (λ k. leads_front p q us ws k)
  where
    step : (IsTrue (p t) ⊎ IsTrue (not (q t) && leads p q us)) → (IsTrue (leads p q us) → IsTrue (leads p q (us ++ ws))) → IsTrue (leads p q (t ∷ us ++ ws))
    step (inl a) further = leads_here p q t (us ++ ws) a
    step (inr a) further = leads_past p q t (us ++ ws) (both_left (not (q t)) (leads p q us) a) (further (both_right (not (q t)) (leads p q us) a))

none_both : (us ws : List Lexeme) → IsTrue (none is_on us) → IsTrue (none is_on ws) → IsTrue (none is_on (us ++ ws))
none_both us ws h k = list_all-append (λ t. not (is_on t)) us ws ∙ both_true (none is_on us) (none is_on ws) h k

-- a token of a class that is apart from ON
not_on : (class : Class) (t : Lexeme) → IsTrue (list_all (are_apart class) (on ∷ [])) → IsTrue (is class t) → IsTrue (not (is_on t))
not_on class t a h = absent (is_on t) (λ k. one_apart class (on ∷ []) t a h (or_first (is_on t) false k))
  where
    absent : (b : Bool) → (IsTrue b → ⊥) → IsTrue (not b)
    absent true f = absurd (f refl)
    absent false f = refl

-- the tokens lead, or have no ON
abbrev Leads : List Lexeme → Type 0
Leads us = IsTrue (leads at_to_from is_on us) ⊎ IsTrue (none is_on us)

role_leads : (us : List Lexeme) (a : AuthId) → spells (grammar_of role) us a → Leads us
unfolding role at_host reserved_words
role_leads us a (pair, (xs, ys, cut, (t, here, one, value), (inl (at, zs, h, cut', host))), same) =
    inl (ap (leads at_to_from is_on) (cut ∙ ap (λ k. k ++ ys) one ∙ ap (λ k. t ∷ k) cut')
    ∙ leads_past at_to_from is_on t (at ∷ zs) (not_on role_class t refl here)
    (leads_here at_to_from is_on at zs (or_first (is (mark 64) at) (is to_or_from at) h)))
role_leads us a (pair, (xs, ys, cut, (t, here, one, value), (inr (nothing, host))), same) =
    inr (ap (none is_on) (cut ∙ ap (λ k. k ++ ys) one ∙ ap (λ k. t ∷ k) nothing) ∙ both_true (not (is_on t)) true (not_on role_class t refl here) refl)

roles_lead : (vs : List AuthId) (us : List Lexeme) → separated (is comma) (spells (grammar_of role)) us vs → Leads us
roles_lead [] us k = absurd k
roles_lead (v ∷ []) us k = role_leads us v k
roles_lead (v ∷ w ∷ vs) us (xs, t, ys, cut, h, k, more) = further (role_leads xs v k) (roles_lead (w ∷ vs) ys more)
  where
    further : Leads xs → Leads ys → Leads us
    further (inl a) rest = inl (ap (leads at_to_from is_on) cut ∙ leads_front at_to_from is_on xs (t ∷ ys) a)
    further (inr a) (inl b) =
        inl (ap (leads at_to_from is_on) cut
        ∙ leads_behind at_to_from is_on xs (t ∷ ys) a (leads_past at_to_from is_on t ys (not_on comma t refl h) b))
    further (inr a) (inr b) = inr (ap (none is_on) cut ∙ none_both xs (t ∷ ys) a (both_true (not (is_on t)) (none is_on ys) (not_on comma t refl h) b))

-- behind roles TO or FROM leads
roles_then : (vs : List AuthId) (us : List Lexeme) (t : Lexeme) (ws : List Lexeme) → spells (grammar_of roles) us vs → IsTrue (is to_or_from t)
    → IsTrue (leads at_to_from is_on (us ++ t ∷ ws))
unfolding roles
roles_then vs us t ws k h = further (roles_lead vs us k)
  where
    further : Leads us → IsTrue (leads at_to_from is_on (us ++ t ∷ ws))
    further (inl a) = leads_front at_to_from is_on us (t ∷ ws) a
    further (inr a) = leads_behind at_to_from is_on us (t ∷ ws) a (leads_here at_to_from is_on t ws (or_second (is (mark 64) t) (is to_or_from t) h))

-- TO, or FROM, is one of the two
to_is : (t : Lexeme) → IsTrue (is (word (codes "TO")) t) → IsTrue (is to_or_from t)
to_is t h = within_is to_or_from (word (codes "TO")) t refl h

from_is : (t : Lexeme) → IsTrue (is (word (codes "FROM")) t) → IsTrue (is to_or_from t)
from_is t h = within_is to_or_from (word (codes "FROM")) t refl h

grant_roles_leads : (us : List Lexeme) (s : Statement) → spells (grammar_of grant_roles) us s → IsTrue (leads at_to_from is_on us)
unfolding grant_roles
grant_roles_leads us s (v, (xs, ys, cut, granted, (t, zs, h, cut', holders)), same) =
    ap (leads at_to_from is_on) (cut ∙ ap (λ k. xs ++ k) cut') ∙ roles_then v.0 xs t zs granted (to_is t h)

revoke_roles_leads : (us : List Lexeme) (s : Statement) → spells (grammar_of revoke_roles) us s → IsTrue (leads at_to_from is_on us)
unfolding revoke_roles
revoke_roles_leads us s (v, (xs, ys, cut, granted, (t, zs, h, cut', holders)), same) =
    ap (leads at_to_from is_on) (cut ∙ ap (λ k. xs ++ k) cut') ∙ roles_then v.0 xs t zs granted (from_is t h)

maybe_none : (us : List Lexeme) (v : Unit {0}) → spells (grammar_of maybe_privileges) us v → IsTrue (none is_on us)
unfolding maybe_privileges
maybe_none us v (inl (t, xs, h, cut, (nothing, same))) =
    ap (none is_on) (cut ∙ ap (λ k. t ∷ k) nothing) ∙ both_true (not (is_on t)) true (not_on (word (codes "PRIVILEGES")) t refl h) refl
maybe_none us v (inr (nothing, same)) = ap (none is_on) nothing

revoke_all_leads : (us : List Lexeme) (s : Statement) → spells (grammar_of revoke_all) us s → IsTrue (leads at_to_from is_on us)
unfolding revoke_all
revoke_all_leads us s (v, (xs, ys, cut, maybe, (t1, u1, h1, c1, (t2, u2, h2, c2, (t3, u3, h3, c3, (t4, u4, h4, c4, list))))), same) =
    ap (leads at_to_from is_on) (cut ∙ ap (λ k. xs ++ k) (c1 ∙ ap (λ k. t1 ∷ k) (c2 ∙ ap (λ k. t2 ∷ k) (c3 ∙ ap (λ k. t3 ∷ k) c4))))
    ∙ leads_behind at_to_from is_on xs (t1 ∷ t2 ∷ t3 ∷ t4 ∷ u4) (maybe_none xs v.0 maybe)
    (leads_past at_to_from is_on t1 (t2 ∷ t3 ∷ t4 ∷ u4) (not_on comma t1 refl h1)
    (leads_past at_to_from is_on t2 (t3 ∷ t4 ∷ u4) (not_on (word (codes "GRANT")) t2 refl h2)
    (leads_past at_to_from is_on t3 (t4 ∷ u4) (not_on (word (codes "OPTION")) t3 refl h3)
    (leads_here at_to_from is_on t4 u4 (or_second (is (mark 64) t4) (is to_or_from t4) (from_is t4 h4))))))

-- what other statements begin with
abbrev others : List Class
others =
    word (codes "CREATE") ∷ word (codes "ALTER") ∷ word (codes "DROP") ∷ word (codes "RENAME") ∷ word (codes "SET") ∷ []

abbrev granting : List Class
granting = word (codes "GRANT") ∷ word (codes "REVOKE") ∷ []

-- a statement that names no privileges begins with another word, or `@`, TO or FROM leads
abbrev Differs : List Lexeme → Type 0
Differs ts = IsTrue (starts others ts) ⊎ IsTrue (leads at_to_from is_on ts)

begins_other : (i : List Class) (class : Class) (k : List Class) (t : Lexeme) → IsTrue (is class t) → IsTrue (is_of_one (i ++ class ∷ k) t)
begins_other [] class k t h = or_first (is class t) (is_of_one k t) h
begins_other (c ∷ i) class k t h = or_second (is c t) (is_of_one (i ++ class ∷ k) t) (begins_other i class k t h)

settings_differ : (us : List Lexeme) (s : Statement) → spells (grammar_of on_grants) us s → Differs us
unfolding on_grants revoke
settings_differ us s (inl (t, xs, h, cut, k)) =
    inr (ap (leads at_to_from is_on) cut
    ∙ leads_past at_to_from is_on t xs (not_on (word (codes "GRANT")) t refl h) (grant_roles_leads xs s k))
settings_differ us s (inr (inl (t, xs, h, cut, (inl (t', ys, h', cut', k))))) =
    inr (ap (leads at_to_from is_on) (cut ∙ ap (λ x. t ∷ x) cut')
    ∙ leads_past at_to_from is_on t (t' ∷ ys) (not_on (word (codes "REVOKE")) t refl h)
    (leads_past at_to_from is_on t' ys (not_on (word (codes "ALL")) t' refl h') (revoke_all_leads ys s k)))
settings_differ us s (inr (inl (t, xs, h, cut, (inr k)))) =
    inr (ap (leads at_to_from is_on) cut
    ∙ leads_past at_to_from is_on t xs (not_on (word (codes "REVOKE")) t refl h) (revoke_roles_leads xs s k))
settings_differ us s (inr (inr (t, xs, h, cut, k))) =
    inl (ap (starts others) cut
    ∙ begins_other (word (codes "CREATE") ∷ word (codes "ALTER") ∷ word (codes "DROP") ∷ word (codes "RENAME") ∷ []) (word (codes "SET")) [] t h)

statement_differs : (us : List Lexeme) (s : Statement) → spells (grammar_of user_statement) us s → Differs us
unfolding user_statement
statement_differs us s (inl (t, xs, h, cut, k)) =
    inl (ap (starts others) cut
    ∙ begins_other [] (word (codes "CREATE")) (word (codes "ALTER") ∷ word (codes "DROP") ∷ word (codes "RENAME") ∷ word (codes "SET") ∷ []) t h)
statement_differs us s (inr (inl (t, xs, h, cut, k))) =
    inl (ap (starts others) cut
    ∙ begins_other (word (codes "CREATE") ∷ []) (word (codes "ALTER")) (word (codes "DROP") ∷ word (codes "RENAME") ∷ word (codes "SET") ∷ []) t h)
statement_differs us s (inr (inr (inl (t, xs, h, cut, k)))) =
    inl (ap (starts others) cut
    ∙ begins_other (word (codes "CREATE") ∷ word (codes "ALTER") ∷ []) (word (codes "DROP")) (word (codes "RENAME") ∷ word (codes "SET") ∷ []) t h)
statement_differs us s (inr (inr (inr (inl (t, xs, h, cut, k))))) =
    inl (ap (starts others) cut
    ∙ begins_other (word (codes "CREATE") ∷ word (codes "ALTER") ∷ word (codes "DROP") ∷ []) (word (codes "RENAME")) (word (codes "SET") ∷ []) t h)
statement_differs us s (inr (inr (inr (inr k)))) = settings_differ us s k

starts_more : (us ws : List Lexeme) → IsTrue (starts others us) → IsTrue (starts others (us ++ ws))
starts_more [] ws h = absurd (cc)
starts_more (t ∷ us) ws h = h

pub user_differs : (ts : List Lexeme) (s : Statement) → spells (grammar_of user_rule) ts s → Differs ts
unfolding user_rule
user_differs ts s (v, (us, ws, cut, k, end), same) = further (statement_differs us v.0 k)
  where
    further : Differs us → Differs ts
    further (inl a) = inl (ap (starts others) cut ∙ starts_more us ws a)
    further (inr a) = inr (ap (leads at_to_from is_on) cut ∙ leads_front at_to_from is_on us ws a)

-- no `@`, no TO and no FROM stands among privileges
none_of_two : (us : List Lexeme) → IsTrue (lacks (mark 64) us) → IsTrue (lacks to_or_from us) → IsTrue (none at_to_from us)
none_of_two [] h k = refl
none_of_two (t ∷ us) h k =
    both_true (not (at_to_from t)) (none at_to_from us)
    (neither (is (mark 64) t) (is to_or_from t) (both_left (not (is (mark 64) t)) (lacks (mark 64) us) h)
    (both_left (not (is to_or_from t)) (lacks to_or_from us) k))
    (none_of_two us (both_right (not (is (mark 64) t)) (lacks (mark 64) us) h) (both_right (not (is to_or_from t)) (lacks to_or_from us) k))
  where
    neither : (a b : Bool) → IsTrue (not a) → IsTrue (not b) → IsTrue (not (a || b))
    neither true b x y = absurd (cc)
    neither false b x y = y

privileges_free : (us : List Lexeme) (named : Named) → spells (grammar_of privileges) us named → IsTrue (none at_to_from us)
unfolding reserved_words plain_names lone_numbers dynamic_names dynamic_numbers ident column_names maybe_columns create_others create_names alter_names drop_names show_names replication_names other_name static_name static_privilege privilege_item item maybe_all privileges
privileges_free us named k = none_of_two us (free_lacks (mark 64) privileges refl us named k) (free_lacks to_or_from privileges refl us named k)

on_leads : (us : List Lexeme) (v : Named × Target) → spells (grammar_of privileges_on_target) us v → IsTrue (leads is_on at_to_from us)
unfolding privileges_on_target
on_leads us v (xs, ys, cut, k, (t, zs, h, cut', target)) =
    ap (leads is_on at_to_from) (cut ∙ ap (λ x. xs ++ x) cut')
    ∙ leads_behind is_on at_to_from xs (t ∷ zs) (privileges_free xs v.0 k) (leads_here is_on at_to_from t zs h)

-- a token of a class that is apart from the three
not_three : (class : Class) (t : Lexeme) → IsTrue (list_all (are_apart class) (mark 64 ∷ to_or_from ∷ [])) → IsTrue (is class t) → IsTrue (not (at_to_from t))
not_three class t a h =
    absent (at_to_from t) (λ k. one_apart class (mark 64 ∷ to_or_from ∷ []) t a h (shown (is (mark 64) t) (is to_or_from t) k))
  where
    absent : (b : Bool) → (IsTrue b → ⊥) → IsTrue (not b)
    absent true f = absurd (f refl)
    absent false f = refl

    shown : (a b : Bool) → IsTrue (a || b) → IsTrue (a || (b || false))
    shown true b x = refl
    shown false true x = refl
    shown false false x = x

privilege_leads : (us : List Lexeme) (s : RawStatement) → spells (grammar_of privilege_statement) us s
    → IsTrue (starts granting us) × IsTrue (leads is_on at_to_from us)
unfolding privilege_statement grant revoke_privileges
privilege_leads us s (inl (t, xs, h, cut, (v, (ys, zs, cut', k, more), same))) = (
  ap (starts granting) cut ∙ or_first (is (word (codes "GRANT")) t) (is_of_one (word (codes "REVOKE") ∷ []) t) h,
  ap (leads is_on at_to_from) cut
      ∙ leads_past is_on at_to_from t xs (not_three (word (codes "GRANT")) t refl h)
      (ap (leads is_on at_to_from) cut' ∙ leads_front is_on at_to_from ys zs (on_leads ys v.0 k)),
)
privilege_leads us s (inr (t, xs, h, cut, (v, (ys, zs, cut', k, more), same))) = (
  ap (starts granting) cut
      ∙ or_second (is (word (codes "GRANT")) t) (is_of_one (word (codes "REVOKE") ∷ []) t) (or_first (is (word (codes "REVOKE")) t) false h),
  ap (leads is_on at_to_from) cut
      ∙ leads_past is_on at_to_from t xs (not_three (word (codes "REVOKE")) t refl h)
      (ap (leads is_on at_to_from) cut' ∙ leads_front is_on at_to_from ys zs (on_leads ys v.0 k)),
)

granting_more : (us ws : List Lexeme) → IsTrue (starts granting us) → IsTrue (starts granting (us ++ ws))
granting_more [] ws h = absurd (cc)
granting_more (t ∷ us) ws h = h

pub privilege_differs : (ts : List Lexeme) (s : RawStatement) → spells (grammar_of privilege_rule) ts s
    → IsTrue (starts granting ts) × IsTrue (leads is_on at_to_from ts)
unfolding privilege_rule
privilege_differs ts s (v, (us, ws, cut, k, end), same) =
    let facts = privilege_leads us v.0 k in
    (ap (starts granting) cut ∙ granting_more us ws facts.0, ap (leads is_on at_to_from) cut ∙ leads_front is_on at_to_from us ws facts.1)

three_apart : (t : Lexeme) → IsTrue (at_to_from t) → IsTrue (is_on t) → ⊥
three_apart t h k = step (or_cases (is (mark 64) t) (is to_or_from t) h)
  where
    step : (IsTrue (is (mark 64) t) ⊎ IsTrue (is to_or_from t)) → ⊥
    step (inl a) = one_apart (mark 64) (on ∷ []) t refl a (or_first (is_on t) false k)
    step (inr a) = one_apart to_or_from (on ∷ []) t refl a (or_first (is_on t) false k)

pub rules_differ : Disjoint (grammar_of user_rule) (grammar_of privilege_rule)
rules_differ ts v w h k = step (user_differs ts v h) (privilege_differs ts w k)
  where
    step : Differs ts → (IsTrue (starts granting ts) × IsTrue (leads is_on at_to_from ts)) → ⊥
    step (inl a) b = starts_apart others granting ts refl a b.0
    step (inr a) b = leads_one at_to_from is_on three_apart ts a b.1

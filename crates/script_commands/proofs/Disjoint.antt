-- No list of tokens is spelled by a command and by a statement.
use Rattle.std.proofs.Common.{◌≡◌, not, IsTrue, List, [], ◌∷◌, ◌++◌, codes, inl, inr, refl, sym, ◌∙◌, ap, subst}
use Rattle.std.specs.List.{list_all}
use Rattle.acl_grammar.proofs.Theorem.{first_of, full_of}
use Rattle.acl_stmt.specs.declared.statement.Statement.{Statement}
use Rattle.acl_grammar.specs.Reader.{Sane}
use Rattle.acl_grammar.specs.Spelling.{spells}
use Rattle.grant_words.proofs.Apart.{apart_classes, are_apart}
use Rattle.grant_words.specs.Classes.{Class, is, word}
use Rattle.grant_words.proofs.Sanity.{all_apart, first_within, firsts, full, lists_apart, may_be_empty, one_apart}
use Rattle.grant_words.specs.Syntax.{Syntax, grammar_of}
use Rattle.grant_words.specs.declared.lexeme.Lexeme.{Lexeme}
use Rattle.privilege_statements.specs.Sanity.{privilege_statement_sane}
use Rattle.privilege_statements.specs.Statements.{privilege_statement}
use Rattle.script_commands.specs.Commands.{command, connect, session_command}
use Rattle.script_commands.specs.Beginnings.{BeginApart}
use Rattle.script_commands.specs.Sanity.{command_sane}
use Rattle.user_statements.specs.Sanity.{user_statement_sane}
use Rattle.user_statements.specs.Statements.{on_grants, set, user_statement}

-- rules whose spellings begin apart
by_first : {A B : Type 0} (s : Syntax A) (r : Syntax B) → Sane (grammar_of s) → Sane (grammar_of r) → IsTrue (not (may_be_empty s))
    → IsTrue (not (may_be_empty r)) → IsTrue (all_apart (firsts s) (firsts r)) → (xs more ys rest : List Lexeme) (v : A) (w : B) → xs ++ more ≡ ys ++ rest
    → spells (grammar_of s) xs v → spells (grammar_of r) ys w → ⊥
by_first s r left right some other a [] more ys rest v w eq h k = full_of (grammar_of s) (full s some) v h
by_first s r left right some other a (x ∷ xs) more [] rest v w eq h k = full_of (grammar_of r) (full r other) w k
by_first s r left right some other a (x ∷ xs) more (y ∷ ys) rest v w eq h k =
    let same : y ≡ x = cc in
    lists_apart (firsts s) (firsts r) x a (first_within s x (first_of (grammar_of s) left x xs v h))
    (first_within r x (first_of (grammar_of r) right x ys w (subst (λ (t : Lexeme). spells (grammar_of r) (t ∷ ys) w) same k)))

pub no_privilege_statement : BeginApart (spells (grammar_of command)) (spells (grammar_of privilege_statement))
unfolding command connect session_command privilege_statement
no_privilege_statement xs more ys rest v w eq h k =
    by_first command privilege_statement command_sane privilege_statement_sane refl refl refl xs more ys rest v w eq h k

first_same : (t u : Lexeme) (ts us : List Lexeme) → t ∷ ts ≡ u ∷ us → t ≡ u
first_same t u ts us e = cc

rest_same : (t u : Lexeme) (ts us : List Lexeme) → t ∷ ts ≡ u ∷ us → ts ≡ us
rest_same t u ts us e = cc

-- what a list begins with, with more behind it
longer : (xs more : List Lexeme) (t : Lexeme) (us : List Lexeme) → xs ≡ t ∷ us → xs ++ more ≡ t ∷ (us ++ more)
longer xs more t us eq = ap (λ l. l ++ more) eq

-- a list does not begin with two keywords
words_clash : (a b : Class) → IsTrue (are_apart a b) → (ts : List Lexeme) (t : Lexeme) (us : List Lexeme) (u : Lexeme) (vs : List Lexeme)
    → IsTrue (is a t) → ts ≡ t ∷ us → IsTrue (is b u) → ts ≡ u ∷ vs → ⊥
words_clash a b apart ts t us u vs here eq there eq' =
    apart_classes a b apart u (subst (λ (x : Lexeme). IsTrue (is a x)) (first_same t u us vs (sym eq ∙ eq')) here) there

-- SET ROLE is no SET of a statement
set_clash : (ys rest : List Lexeme) (t : Lexeme) (us : List Lexeme) → IsTrue (is (word (codes "ROLE")) t) → ys ++ rest ≡ t ∷ us → (w : Statement)
    → spells (grammar_of set) ys w → ⊥
unfolding set
set_clash ys rest t us here eq w (inl (u, vs, there, eq', k)) =
    words_clash (word (codes "ROLE")) (word (codes "DEFAULT")) refl (ys ++ rest) t us u (vs ++ rest) here eq there (longer ys rest u vs eq')
set_clash ys rest t us here eq w (inr (inl (u, vs, there, eq', k))) =
    words_clash (word (codes "ROLE")) (word (codes "PASSWORD")) refl (ys ++ rest) t us u (vs ++ rest) here eq there (longer ys rest u vs eq')
set_clash ys rest t us here eq w (inr (inr (u, vs, there, eq', k))) =
    words_clash (word (codes "ROLE")) (word (codes "PERSIST")) refl (ys ++ rest) t us u (vs ++ rest) here eq there (longer ys rest u vs eq')

set_role_clash : (ys rest : List Lexeme) (t : Lexeme) (us : List Lexeme) (r : Lexeme) (rs : List Lexeme) → IsTrue (is (word (codes "SET")) t)
    → ys ++ rest ≡ t ∷ us → IsTrue (is (word (codes "ROLE")) r) → us ≡ r ∷ rs → (w : Statement) → spells (grammar_of user_statement) ys w → ⊥
unfolding user_statement on_grants
set_role_clash ys rest t us r rs here eq role next w (inl (u, vs, there, eq', k)) =
    words_clash (word (codes "SET")) (word (codes "CREATE")) refl (ys ++ rest) t us u (vs ++ rest) here eq there (longer ys rest u vs eq')
set_role_clash ys rest t us r rs here eq role next w (inr (inl (u, vs, there, eq', k))) =
    words_clash (word (codes "SET")) (word (codes "ALTER")) refl (ys ++ rest) t us u (vs ++ rest) here eq there (longer ys rest u vs eq')
set_role_clash ys rest t us r rs here eq role next w (inr (inr (inl (u, vs, there, eq', k)))) =
    words_clash (word (codes "SET")) (word (codes "DROP")) refl (ys ++ rest) t us u (vs ++ rest) here eq there (longer ys rest u vs eq')
set_role_clash ys rest t us r rs here eq role next w (inr (inr (inr (inl (u, vs, there, eq', k))))) =
    words_clash (word (codes "SET")) (word (codes "RENAME")) refl (ys ++ rest) t us u (vs ++ rest) here eq there (longer ys rest u vs eq')
set_role_clash ys rest t us r rs here eq role next w (inr (inr (inr (inr (inl (u, vs, there, eq', k)))))) =
    words_clash (word (codes "SET")) (word (codes "GRANT")) refl (ys ++ rest) t us u (vs ++ rest) here eq there (longer ys rest u vs eq')
set_role_clash ys rest t us r rs here eq role next w (inr (inr (inr (inr (inr (inl (u, vs, there, eq', k))))))) =
    words_clash (word (codes "SET")) (word (codes "REVOKE")) refl (ys ++ rest) t us u (vs ++ rest) here eq there (longer ys rest u vs eq')
set_role_clash ys rest t us r rs here eq role next w (inr (inr (inr (inr (inr (inr (u, vs, there, eq', k))))))) =
    set_clash vs rest r rs role (sym (rest_same t u us (vs ++ rest) (sym eq ∙ longer ys rest u vs eq')) ∙ next) w k

-- no statement begins with the word
begins_none : (c : Class) → IsTrue (list_all (are_apart c) (firsts user_statement)) → (ys rest : List Lexeme) (t : Lexeme) (us : List Lexeme)
    → IsTrue (is c t) → ys ++ rest ≡ t ∷ us → (w : Statement) → spells (grammar_of user_statement) ys w → ⊥
unfolding user_statement on_grants
begins_none c a [] rest t us here eq w k = full_of (grammar_of user_statement) (full user_statement refl) w k
begins_none c a (y ∷ ys) rest t us here eq w k =
    let same : t ≡ y = cc in
    one_apart c (firsts user_statement) y a (subst (λ (x : Lexeme). IsTrue (is c x)) same here)
    (first_within user_statement y (first_of (grammar_of user_statement) user_statement_sane y ys w k))

pub no_user_statement : BeginApart (spells (grammar_of command)) (spells (grammar_of user_statement))
unfolding command connect session_command user_statement on_grants
no_user_statement xs more ys rest v w whole (inl (x, (t, us, h, eq, k), same)) l =
    begins_none (word (codes "CONNECT")) refl ys rest t (us ++ more) h (sym whole ∙ longer xs more t us eq) w l
no_user_statement xs more ys rest v w whole (inr (inl (t, us, h, eq, k))) l =
    begins_none (word (codes "DISCONNECT")) refl ys rest t (us ++ more) h (sym whole ∙ longer xs more t us eq) w l
no_user_statement xs more ys rest v w whole (inr (inr (inl (t, us, h, eq, k)))) l =
    begins_none (word (codes "AWAIT")) refl ys rest t (us ++ more) h (sym whole ∙ longer xs more t us eq) w l
no_user_statement xs more ys rest v w whole (inr (inr (inr (inl (t, us, h, eq, k))))) l =
    begins_none (word (codes "USE")) refl ys rest t (us ++ more) h (sym whole ∙ longer xs more t us eq) w l
no_user_statement xs more ys rest v w whole (inr (inr (inr (inr (inl (t, us, h, eq, (r, rs, role, next, k))))))) l =
    set_role_clash ys rest t (us ++ more) r (rs ++ more) h (sym whole ∙ longer xs more t us eq) role (longer us more r rs next) w l
no_user_statement xs more ys rest v w whole (inr (inr (inr (inr (inr (inl (t, us, h, eq, k))))))) l =
    begins_none (word (codes "CHECK")) refl ys rest t (us ++ more) h (sym whole ∙ longer xs more t us eq) w l
no_user_statement xs more ys rest v w whole (inr (inr (inr (inr (inr (inr (t, us, h, eq, k))))))) l =
    begins_none (word (codes "SHOW")) refl ys rest t (us ++ more) h (sym whole ∙ longer xs more t us eq) w l

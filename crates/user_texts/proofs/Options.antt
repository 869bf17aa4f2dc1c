-- Options are read as they are written.
use Rattle.std.proofs.Common.{◌≡◌, ℕ, nat_le, Bool, IsTrue, true, false, List, [], ◌∷◌, ◌++◌, append-nil, Option, Some, None, inl, inr, refl, sym, ap, subst, ◌∙◌}
use Rattle.std.specs.Prelude.{codes, decimal}
use Rattle.acl_grammar.specs.Spelling.{repeated, spells}
use Rattle.acl_names.specs.declared.policy.LockTime.{LockTime}
use Rattle.acl_names.specs.declared.policy.LockTime.TheVariants.{Days, Unbounded}
use Rattle.acl_stmt.specs.Statements.{are_options, is_lock_time, is_option_number}
use Rattle.acl_stmt.specs.declared.options.AccountOptions.{AccountOptions}
use Rattle.canonical_texts.proofs.Lexemes.{lexemes_append}
use Rattle.canonical_texts.specs.Tokens.{attempts_tokens, days_tokens, locked_tokens, options_tokens, word, words_of}
use Rattle.grant_lex.specs.Printed.{Printed}
use Rattle.grant_lex.specs.Value.{value_of}
use Rattle.grant_words.proofs.Apart.{both_left, both_right}
use Rattle.grant_words.specs.Classes.{is}
use Rattle.grant_words.specs.Lexemes.{printed_lexeme, printed_lexemes}
use Rattle.grant_words.specs.Numbers.{number_of}
use Rattle.grant_words.specs.Syntax.{grammar_of}
use Rattle.grant_words.specs.declared.lexeme.Lexeme.{Lexeme}
use Rattle.user_statements.proofs.Numbers.{same_number}
use Rattle.user_statements.specs.Options.{is_number_text, lock, lock_time, number, number_class, options, options_of, setting}
use Rattle.user_statements.specs.declared.setting.Setting.{Setting}
use Rattle.user_statements.specs.declared.setting.Setting.TheVariants.{Attempts, Lock, Locked}
use Rattle.user_texts.proofs.Lists.{repeated_append}
use Rattle.user_texts.proofs.Numbers.{decimal_fits, decimal_number, decimal_value}

number_is : (n : ℕ) → IsTrue (nat_le n 32767) → IsTrue (is number_class (printed_lexeme (word (decimal n))))
unfolding is
number_is n h = same_number (value_of (decimal n)) ∙ ap is_number_text (decimal_value n h) ∙ decimal_fits n h

number_again : (n : ℕ) → IsTrue (nat_le n 32767) → spells (grammar_of number) (printed_lexeme (word (decimal n)) ∷ []) n
unfolding number
number_again n h =
    (printed_lexeme (word (decimal n)), number_is n h, refl, sym (ap number_of (decimal_value n h) ∙ decimal_number n h))

-- one setting for each option that is given
abbrev attempts_settings : Option ℕ → List Setting
attempts_settings None = []
attempts_settings (Some n) = Attempts n ∷ []

abbrev days_settings : Option LockTime → List Setting
days_settings None = []
days_settings (Some time) = Lock time ∷ []

abbrev locked_settings : Option Bool → List Setting
locked_settings None = []
locked_settings (Some locked) = Locked locked ∷ []

one : {A : Type 0} (P : List Lexeme → A → Type 0) (ts : List Lexeme) (v : A) → P ts v → repeated P ts (v ∷ [])
one P ts v k = (ts, [], sym (append-nil ts), k, refl)

attempts_again : (attempts : Option ℕ) → IsTrue (is_option_number attempts)
    → repeated (spells (grammar_of setting)) (printed_lexemes (attempts_tokens attempts)) (attempts_settings attempts)
unfolding setting is
attempts_again None h = refl
attempts_again (Some n) h =
    one (spells (grammar_of setting)) (printed_lexeme (word (codes "FAILED_LOGIN_ATTEMPTS")) ∷ printed_lexeme (word (decimal n)) ∷ []) (Attempts n)
    (inl (printed_lexeme (word (codes "FAILED_LOGIN_ATTEMPTS")), printed_lexeme (word (decimal n)) ∷ [], refl, refl, (n, number_again n h, refl)))

lock_days : (n : ℕ) → IsTrue (nat_le n 32767) → spells (grammar_of lock_time) (printed_lexeme (word (decimal n)) ∷ []) (Days n)
unfolding lock_time
lock_days n h = inr (n, number_again n h, refl)

unbounded : spells (grammar_of lock_time) (printed_lexeme (word (codes "UNBOUNDED")) ∷ []) Unbounded
unfolding lock_time is
unbounded = inl (printed_lexeme (word (codes "UNBOUNDED")), [], refl, refl, (refl, refl))

days_again : (days : Option LockTime) → IsTrue (is_lock_time days)
    → repeated (spells (grammar_of setting)) (printed_lexemes (days_tokens days)) (days_settings days)
unfolding setting words_of is
days_again None h = refl
days_again (Some (Days n)) h =
    one (spells (grammar_of setting)) (printed_lexeme (word (codes "PASSWORD_LOCK_TIME")) ∷ printed_lexeme (word (decimal n)) ∷ []) (Lock (Days n))
    (inr (inl (printed_lexeme (word (codes "PASSWORD_LOCK_TIME")), printed_lexeme (word (decimal n)) ∷ [], refl, refl, (Days n, lock_days n h, refl))))
days_again (Some Unbounded) h =
    one (spells (grammar_of setting)) (printed_lexeme (word (codes "PASSWORD_LOCK_TIME")) ∷ printed_lexeme (word (codes "UNBOUNDED")) ∷ []) (Lock Unbounded)
    (inr (inl (printed_lexeme (word (codes "PASSWORD_LOCK_TIME")), printed_lexeme (word (codes "UNBOUNDED")) ∷ [], refl, refl, (Unbounded, unbounded, refl))))

lock_on : spells (grammar_of lock) (printed_lexeme (word (codes "LOCK")) ∷ []) true
unfolding lock is
lock_on = inl (printed_lexeme (word (codes "LOCK")), [], refl, refl, (refl, refl))

lock_off : spells (grammar_of lock) (printed_lexeme (word (codes "UNLOCK")) ∷ []) false
unfolding lock is
lock_off = inr (printed_lexeme (word (codes "UNLOCK")), [], refl, refl, (refl, refl))

locked_again : (locked : Option Bool) → repeated (spells (grammar_of setting)) (printed_lexemes (locked_tokens locked)) (locked_settings locked)
unfolding setting words_of is
locked_again None = refl
locked_again (Some true) =
    one (spells (grammar_of setting)) (printed_lexeme (word (codes "ACCOUNT")) ∷ printed_lexeme (word (codes "LOCK")) ∷ []) (Locked true)
    (inr (inr (printed_lexeme (word (codes "ACCOUNT")), printed_lexeme (word (codes "LOCK")) ∷ [], refl, refl, (true, lock_on, refl))))
locked_again (Some false) =
    one (spells (grammar_of setting)) (printed_lexeme (word (codes "ACCOUNT")) ∷ printed_lexeme (word (codes "UNLOCK")) ∷ []) (Locked false)
    (inr (inr (printed_lexeme (word (codes "ACCOUNT")), printed_lexeme (word (codes "UNLOCK")) ∷ [], refl, refl, (false, lock_off, refl))))

abbrev options_with : Option ℕ → Option LockTime → Option Bool → AccountOptions
options_with attempts days locked = record { attempts = attempts; days = days; locked = locked }

-- they add up to the options
settled : (attempts : Option ℕ) (days : Option LockTime) (locked : Option Bool)
    → options_with attempts days locked ≡ options_of (attempts_settings attempts ++ (days_settings days ++ locked_settings locked))
settled None None None = refl
settled None None (Some l) = refl
settled None (Some d) None = refl
settled None (Some d) (Some l) = refl
settled (Some a) None None = refl
settled (Some a) None (Some l) = refl
settled (Some a) (Some d) None = refl
settled (Some a) (Some d) (Some l) = refl

cut_in_three : (a d l : List Printed) → printed_lexemes (a ++ (d ++ l)) ≡ printed_lexemes a ++ (printed_lexemes d ++ printed_lexemes l)
cut_in_three a d l = lexemes_append a (d ++ l) ∙ ap (λ x. printed_lexemes a ++ x) (lexemes_append d l)

pub options_again : (o : AccountOptions) → IsTrue (are_options o) → spells (grammar_of options) (printed_lexemes (options_tokens o)) o
unfolding options
options_again o h = (
  attempts_settings o.attempts ++ (days_settings o.days ++ locked_settings o.locked),
  subst (λ l. repeated (spells (grammar_of setting)) l (attempts_settings o.attempts ++ (days_settings o.days ++ locked_settings o.locked)))
      (sym (cut_in_three (attempts_tokens o.attempts) (days_tokens o.days) (locked_tokens o.locked)))
      (repeated_append (spells (grammar_of setting)) (attempts_settings o.attempts) (days_settings o.days ++ locked_settings o.locked)
      (printed_lexemes (attempts_tokens o.attempts)) (printed_lexemes (days_tokens o.days) ++ printed_lexemes (locked_tokens o.locked))
      (attempts_again o.attempts (both_left (is_option_number o.attempts) (is_lock_time o.days) h))
      (repeated_append (spells (grammar_of setting)) (days_settings o.days) (locked_settings o.locked)
      (printed_lexemes (days_tokens o.days)) (printed_lexemes (locked_tokens o.locked))
      (days_again o.days (both_right (is_option_number o.attempts) (is_lock_time o.days) h)) (locked_again o.locked))),
  settled o.attempts o.days o.locked,
)

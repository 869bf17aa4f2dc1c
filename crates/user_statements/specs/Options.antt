-- Options of accounts.
use Rattle.std.specs.Prelude.{ℕ, Bool, true, false, ◌&&◌, nat_le, List, [], ◌∷◌, length, Some, None, codes}
use Rattle.std.specs.Char.{is_ascii_digit}
use Rattle.std.specs.List.{list_all}
use Rattle.acl_names.specs.declared.policy.LockTime.{LockTime}
use Rattle.acl_names.specs.declared.policy.LockTime.TheVariants.{Days, Unbounded}
use Rattle.acl_stmt.specs.declared.options.AccountOptions.{AccountOptions}
use Rattle.grant_words.specs.Classes.{Class, word}
use Rattle.grant_words.specs.Classes.Class.{valued}
use Rattle.grant_words.specs.Classes.Sort.{plain_word}
use Rattle.grant_words.specs.Numbers.{number_of}
use Rattle.grant_words.specs.Syntax.{Syntax}
use Rattle.grant_words.specs.Syntax.Syntax.{token, after, empty, to, choice, many}
use Rattle.user_statements.specs.declared.setting.Setting.{Setting}
use Rattle.user_statements.specs.declared.setting.Setting.TheVariants.{Attempts, Lock, Locked}

-- 1 to 5 digits, of a number up to 32,767
abbrev pub is_number_text : List ℕ → Bool
is_number_text text = nat_le 1 (length text) && nat_le (length text) 5 && list_all is_ascii_digit text && nat_le (number_of text) 32767

abbrev pub number_class : Class
number_class = valued plain_word is_number_text (codes "0")

unfoldable pub number : Syntax ℕ
number = token number_class number_of

-- a number of days, or UNBOUNDED
unfoldable pub lock_time : Syntax LockTime
lock_time = choice (after (word (codes "UNBOUNDED")) (empty Unbounded)) (to Days number)

-- LOCK or UNLOCK
unfoldable pub lock : Syntax Bool
lock = choice (after (word (codes "LOCK")) (empty true)) (after (word (codes "UNLOCK")) (empty false))

unfoldable pub setting : Syntax Setting
setting =
    choice (after (word (codes "FAILED_LOGIN_ATTEMPTS")) (to Attempts number))
    (choice (after (word (codes "PASSWORD_LOCK_TIME")) (to Lock lock_time)) (after (word (codes "ACCOUNT")) (to Locked lock)))

abbrev pub with_setting : AccountOptions → Setting → AccountOptions
with_setting options (Attempts number) = record { attempts = Some number; days = options.days; locked = options.locked }
with_setting options (Lock time) = record { attempts = options.attempts; days = Some time; locked = options.locked }
with_setting options (Locked locked) = record { attempts = options.attempts; days = options.days; locked = Some locked }

-- of several options of one kind the last counts
abbrev pub with_settings : AccountOptions → List Setting → AccountOptions
with_settings options [] = options
with_settings options (first ∷ rest) = with_settings (with_setting options first) rest

abbrev pub no_options : AccountOptions
no_options = record { attempts = None; days = None; locked = None }

abbrev pub options_of : List Setting → AccountOptions
options_of settings = with_settings no_options settings

unfoldable pub options : Syntax AccountOptions
options = to options_of (many setting)

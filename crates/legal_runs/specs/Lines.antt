-- Which parts and which answer a line may have: it is whole where they are those of its command (MySQL 8.0 Reference Manual, "When
-- Privilege Changes Take Effect").
use Rattle.std.specs.Prelude.{◌≡◌, ◌⊎◌, ℕ, ◌+◌, ◌<◌, ◌≤◌, true, false, List, [], ◌∷◌, ◌++◌, length, map, All, Option, Some, None, Ok, Err}
use Rattle.acl_stmt.specs.declared.refusal.Refusal.{Refusal}
use Rattle.acl_stmt.specs.declared.statement.Statement.{Statement}
use Rattle.book_log.specs.Items.{Item, Knock, Login, LoginRefusal}
use Rattle.book_log.specs.Items.Call.{Asks, Knocks}
use Rattle.book_log.specs.Items.Reply.{ToLogin, ToStatement}
use Rattle.legal_runs.specs.Commands.{Answer, Command}
use Rattle.legal_runs.specs.Commands.Answer.{Bye, Connected, Done, NoEntry, NoMemory, NotConnected, NotYet, Reached, RefusedLogin, RefusedStatement, Schema}
use Rattle.legal_runs.specs.Commands.Command.{Await, Check, Connect, Disconnect, Issue, SetRole, ShowGrants, UseSchema}
use Rattle.legal_runs.specs.Rules.{IsActing, IsCheckAnswer, IsRolesAnswer, IsShowAnswer, Setting, completed}
use Rattle.legal_runs.specs.Sessions.{Part, Session, Views, Who}
use Rattle.legal_runs.specs.Sessions.Part.{Called, Heard, Saw}
use Rattle.priv_map.specs.declared.acting.Acting.{Acting}

abbrev pub seeing : List ℕ → List Part
seeing lengths = map Saw lengths

-- one look at what is published
pub record IsOneRead (parts : List Part) : Type 0 where
  pub seen : ℕ
  pub parts_are : parts ≡ Saw seen ∷ []

-- a login that is let in, and told of a publication that holds all that it was let in by
pub record IsEntered (knock : Knock) (parts : List Part) (answer : Answer) : Type 0 where
  pub item : Item
  pub login : Login
  pub told : ℕ
  pub parts_are : parts ≡ Called item ∷ Heard told ∷ []
  pub call_is : item.call ≡ Knocks knock
  pub reply_is : item.reply ≡ ToLogin (Ok login)
  pub is_told : login.position ≤ told
  pub answer_is : answer ≡ Connected login.shown

pub record IsKeptOut (knock : Knock) (parts : List Part) (answer : Answer) : Type 0 where
  pub item : Item
  pub why : LoginRefusal
  pub parts_are : parts ≡ Called item ∷ []
  pub call_is : item.call ≡ Knocks knock
  pub reply_is : item.reply ≡ ToLogin (Err why)
  pub answer_is : answer ≡ RefusedLogin why

-- a statement that is accepted, and told of a publication that holds it
pub record IsPublished (acting : Acting) (statement : Statement) (parts : List Part) (answer : Answer) : Type 0 where
  pub item : Item
  pub position : ℕ
  pub told : ℕ
  pub parts_are : parts ≡ Called item ∷ Heard told ∷ []
  pub call_is : item.call ≡ Asks acting statement
  pub reply_is : item.reply ≡ ToStatement (Ok position)
  pub is_told : position ≤ told
  pub answer_is : answer ≡ Done position true

-- one that is accepted and not published yet: the session is told nothing
pub record IsUnpublished (acting : Acting) (statement : Statement) (parts : List Part) (answer : Answer) : Type 0 where
  pub item : Item
  pub position : ℕ
  pub parts_are : parts ≡ Called item ∷ []
  pub call_is : item.call ≡ Asks acting statement
  pub reply_is : item.reply ≡ ToStatement (Ok position)
  pub answer_is : answer ≡ Done position false

pub record IsRefusedLine (acting : Acting) (statement : Statement) (parts : List Part) (answer : Answer) : Type 0 where
  pub item : Item
  pub why : Refusal
  pub parts_are : parts ≡ Called item ∷ []
  pub call_is : item.call ≡ Asks acting statement
  pub reply_is : item.reply ≡ ToStatement (Err why)
  pub answer_is : answer ≡ RefusedStatement why

-- the session's own acting asks
pub record IsIssued (on : Setting) (at : Views) (who : Who) (statement : Statement) (parts : List Part) (answer : Answer) : Type 0 where
  pub acting : Acting
  pub is_acting : IsActing on who at.level at.schema acting
  pub answered : IsPublished acting statement parts answer ⊎ (IsUnpublished acting statement parts answer ⊎ IsRefusedLine acting statement parts answer)

-- looks until one shows enough, or so many that none does
pub record IsAwaited (wanted turns : ℕ) (parts : List Part) (answer : Answer) : Type 0 where
  pub short : List ℕ
  pub last : ℕ
  pub parts_are : parts ≡ seeing (short ++ last ∷ [])
  pub are_short : All (λ seen. seen < wanted) short
  pub answered : ((wanted ≤ last) × (length short < turns) × (answer ≡ Reached)) ⊎ ((last < wanted) × (length short + 1 ≡ turns) × (answer ≡ NotYet))

-- the answer of a command, by what it reads
abbrev pub IsAnsweredAs : Setting → Views → Option Who → Command → List Part → Answer → Type 0
IsAnsweredAs on at who (Connect knock) parts answer = IsEntered knock parts answer ⊎ IsKeptOut knock parts answer
IsAnsweredAs on at who (Await wanted turns) parts answer = IsAwaited wanted turns parts answer
IsAnsweredAs on at None _ parts answer = (parts ≡ []) × (answer ≡ NotConnected)
IsAnsweredAs on at (Some who) Disconnect parts answer = (parts ≡ []) × (answer ≡ Bye)
IsAnsweredAs on at (Some who) (UseSchema schema) parts answer = IsOneRead parts × (answer ≡ Schema schema)
IsAnsweredAs on at (Some who) (SetRole form) parts answer = IsOneRead parts × IsRolesAnswer on at.present who form answer
IsAnsweredAs on at (Some who) (Check privileges target) parts answer = IsOneRead parts × IsCheckAnswer on at who privileges target answer
IsAnsweredAs on at (Some who) (ShowGrants account roles) parts answer = IsOneRead parts × IsShowAnswer on at who account roles answer
IsAnsweredAs on at (Some who) (Issue statement) parts answer = IsIssued on at who (completed who.account statement) parts answer

-- the command looks at what is published
abbrev pub Reads : Option Who → Command → Type 0
Reads who (Await wanted turns) = Unit {0}
Reads (Some who) (UseSchema schema) = Unit {0}
Reads (Some who) (SetRole form) = Unit {0}
Reads (Some who) (Check privileges target) = Unit {0}
Reads (Some who) (ShowGrants account roles) = Unit {0}
Reads who _ = ⊥

-- a line that found no memory or no entry: it may have looked, where its command looks, and handed nothing in
pub record IsGivenUp (who : Option Who) (command : Command) (parts : List Part) (answer : Answer) : Type 0 where
  pub seen : List ℕ
  pub parts_are : parts ≡ seeing seen
  pub reads : Reads who command ⊎ ((seen ≡ []) × (answer ≡ NoMemory))
  pub answer_is : (answer ≡ NoMemory) ⊎ (answer ≡ NoEntry)

unfoldable pub IsWhole : Setting → Views → Session → Command → List Part → Answer → Type 0
IsWhole on at session command parts answer = IsAnsweredAs on at session.who command parts answer ⊎ IsGivenUp session.who command parts answer

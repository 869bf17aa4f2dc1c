-- Why the worked examples of wrong reports are not legal.
use Rattle.std.proofs.Common.{◌≡◌, ◌∙◌, ◌⊎◌, inl, inr, ℕ, true, List, [], ◌∷◌, take, Option, Some, None, refl, sym, ap, subst, arith}
use Rattle.acl_model.specs.Effects.{after, becomes, changed, state_after}
use Rattle.acl_names.specs.declared.auth.AuthId.{AuthId}
use Rattle.acl_stmt.specs.Entries.{is_entry}
use Rattle.acl_stmt.specs.Statements.{is_statement}
use Rattle.acl_stmt.specs.declared.entry.Entry.{Entry}
use Rattle.acl_stmt.specs.declared.refusal.Missing.{Missing}
use Rattle.acl_stmt.specs.declared.refusal.Refusal.TheVariants.{AccountExists}
use Rattle.acl_stmt.specs.declared.roles.RoleForm.TheVariants as form
use Rattle.acl_stmt.specs.declared.target.Target.TheVariants.{Global}
use Rattle.book_log.specs.Callers.{calls}
use Rattle.book_log.specs.ExampleLogs.{ann, bob, create, free}
use Rattle.book_log.specs.Histories.{history}
use Rattle.legal_runs.proofs.Answered.{ends_so, ends_with, never_falls, session_calls, told_before}
use Rattle.legal_runs.proofs.Points.{line_now}
use Rattle.legal_runs.specs.Commands.{Answer, Command}
use Rattle.legal_runs.specs.Commands.Answer.{Denied, Done, NoEntry, NoMemory, NotConnected, RefusedRole, RefusedStatement, Roles, Schema}
use Rattle.legal_runs.specs.Commands.Command.{Check, Connect, Issue, SetRole, UseSchema}
use Rattle.legal_runs.specs.Core.{Turn, session_after}
use Rattle.legal_runs.specs.ExampleReports.{ann_and_bob, ann_once, answered_later, call_lost, called_twice, check_behind, checked_after, connected, knock, line, now_falls, number_left_out, role_set, used_twice}
use Rattle.legal_runs.specs.ExampleRuns.{from_start, pay}
use Rattle.legal_runs.specs.Lines.{IsAnsweredAs, IsGivenUp, IsWhole}
use Rattle.legal_runs.specs.Report.{AreLegal, IsLegalReport, LineAnswer, commands_of}
use Rattle.legal_runs.specs.Rules.{IsRolesAnswer, IsRolesAnswerBy, not_granted, select_alone, state_of}
use Rattle.legal_runs.specs.Sessions.{Part, Session, Views, Who, now_after, views}
use Rattle.priv_map.specs.declared.held.Held.{Held}

pub not_twice : (held : Held) → IsLegalReport from_start ann_once (called_twice held) → ⊥
not_twice held legal =
    let counted = session_calls from_start (history free [] (called_twice held).log) (called_twice held).log (Connect knock ∷ Issue (create ann) ∷ [])
    (connected 0 ∷ line 0 1 (Done 1 true) ∷ []) legal.sessions.0 in
    omega (arith, counted)

pub not_lost : (held : Held) → IsLegalReport from_start ann_once (call_lost held) → ⊥
not_lost held legal =
    let counted = session_calls from_start (history free [] (call_lost held).log) (call_lost held).log (Connect knock ∷ Issue (create ann) ∷ [])
    (connected 0 ∷ line 0 0 (RefusedStatement (AccountExists ann)) ∷ []) legal.sessions.0 in
    omega (arith, counted)

pub not_skipped : (held : Held) → IsLegalReport from_start ann_and_bob (number_left_out held) → ⊥
not_skipped held legal = let wrong : ◌≡◌ {A = ℕ} 3 2 = legal.sessions.0.numbered.1.1.0 in omega (arith, wrong)

pub not_fallen : (held : Held) → IsLegalReport from_start used_twice (now_falls held) → ⊥
not_fallen held legal =
    let onward = never_falls from_start (history free [] (now_falls held).log) (calls 1 (now_falls held).log) (Connect knock ∷ UseSchema pay ∷ UseSchema pay ∷ [])
    (connected 2 ∷ []) (line 3 3 (Schema pay)) (line 2 2 (Schema pay)) legal.sessions.1.0 in omega (arith, onward.0)

pub not_behind : (held : Held) (missing : Missing) → IsLegalReport from_start checked_after (check_behind held missing) → ⊥
not_behind held missing legal =
    let told = told_before from_start (history free [] (check_behind held missing).log) (check_behind held missing).log (Connect knock ∷ []) (create ann)
    (Check select_alone Global) (connected 0 ∷ []) (line 0 0 (Done 1 true)) (line 0 0 (Denied missing)) 1 legal.sessions.0 refl in omega (arith, told)

-- ---- an answer by a later state

abbrev two_statements : Held → List Entry
two_statements held = take 2 (history free [] (answered_later held).log)

-- after ann and bob nobody has been granted a role
nothing_granted : (held : Held) (account : AuthId) → not_granted (state_of from_start (two_statements held)) account (form.List (bob ∷ [])) ≡ Some bob
unfolding history is_entry is_statement state_after after changed becomes
nothing_granted held account = refl

answered_wrong : (held : Held) (who : Option Who) (at : Views) (parts : List Part) (answer : Answer) → at.present ≡ two_statements held →
    answer ≡ Roles (bob ∷ []) → IsAnsweredAs from_start at who (SetRole (form.List (bob ∷ []))) parts answer → ⊥
answered_wrong held None at parts answer present is answered = let wrong : NotConnected ≡ Roles (bob ∷ []) = sym answered.1 ∙ is in absurd (cc)
answered_wrong held (Some who) at parts answer present is answered =
    let here : IsRolesAnswer from_start (two_statements held) who (form.List (bob ∷ [])) answer =
    subst (λ (es : List Entry). IsRolesAnswer from_start es who (form.List (bob ∷ [])) answer) present answered.1 in
    let refused : answer ≡ RefusedRole bob =
    subst (λ (found : Option AuthId). IsRolesAnswerBy (state_of from_start (two_statements held)) who.account (form.List (bob ∷ [])) found answer)
    (nothing_granted held who.account) here in
    let wrong : RefusedRole bob ≡ Roles (bob ∷ []) = sym refused ∙ is in absurd (cc)

no_memory_wrong : (who : Option Who) (command : Command) (parts : List Part) (answer : Answer) → answer ≡ Roles (bob ∷ []) → IsGivenUp who command parts answer → ⊥
no_memory_wrong who command parts answer is given = by given.answer_is
  where
    by : (answer ≡ NoMemory) ⊎ (answer ≡ NoEntry) → ⊥
    by (inl none) = let wrong : NoMemory ≡ Roles (bob ∷ []) = sym none ∙ is in absurd (cc)
    by (inr none) = let wrong : NoEntry ≡ Roles (bob ∷ []) = sym none ∙ is in absurd (cc)

whole_wrong : (held : Held) (at : Views) (session : Session) (parts : List Part) (answer : Answer) → at.present ≡ two_statements held → answer ≡ Roles (bob ∷ []) →
    IsWhole from_start at session (SetRole (form.List (bob ∷ []))) parts answer → ⊥
unfolding IsWhole
whole_wrong held at session parts answer present is (inl answered) = answered_wrong held session.who at parts answer present is answered
whole_wrong held at session parts answer present is (inr given) = no_memory_wrong session.who (SetRole (form.List (bob ∷ []))) parts answer is given

pub not_later : (held : Held) → IsLegalReport from_start role_set (answered_later held) → ⊥
not_later held legal =
    let session = legal.sessions.1.0 in
    let log = (answered_later held).log in
    let ends = ends_so session.turns [] (connected 2) (line 2 2 (Roles (bob ∷ []))) session.answers_are in
    let are_legal : AreLegal from_start (history free [] log) (ends.last ∷ ends.first ∷ ends.older) =
    subst (λ (turns : List Turn). AreLegal from_start (history free [] log) turns) ends.turns_are session.are_legal in
    let before : Session = session_after (ends.first ∷ ends.older) in
    let command : SetRole (form.List (bob ∷ [])) ≡ ends.last.command =
    ends_with ends.last ends.first ends.older (Connect knock ∷ []) (SetRole (form.List (bob ∷ []))) (session.commands_are ∙ ap commands_of ends.turns_are) in
    let answer : ends.last.answer ≡ Roles (bob ∷ []) = sym (ap (λ (l : LineAnswer). l.answer) ends.other_is) in
    let now : now_after before.now ends.last.parts ≡ 2 =
    sym (line_now ends.last.command ends.last.parts ends.last.answer before) ∙ sym (ap (λ (l : LineAnswer). l.now) ends.other_is) in
    let present : take (now_after before.now ends.last.parts) (history free [] log) ≡ two_statements held = ap (λ n. take n (history free [] log)) now in
    whole_wrong held (views (history free [] log) before ends.last.parts) before ends.last.parts ends.last.answer present answer
    (subst (λ (c : Command). IsWhole from_start (views (history free [] log) before ends.last.parts) before c ends.last.parts ends.last.answer) (sym command) are_legal.1.whole)

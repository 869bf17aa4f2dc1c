-- Answers that are filed one after the other, each at the end of its session's, are those of each session.
use Rattle.std.proofs.Common.{◌≡◌, ◌≢◌, ℕ, zero, suc, ◌+◌, ◌<◌, List, [], ◌∷◌, ◌++◌, length, map, get_or, set, refl, sym, ap, subst, ◌∙◌, arith, append_assoc, append-nil, length-set}
use Rattle.std.specs.List.{All}
use Rattle.std.proofs.lemmas.Bool.Decides.{nat_tests}
use Rattle.std.proofs.lemmas.List.{length-map}
use Rattle.line_answers.specs.Reports.{answers_by_session, answers_of_session, sessions_from}
use Rattle.line_answers.specs.declared.report.LineAnswer.{LineAnswer}
use Rattle.line_answers.specs.declared.report.SessionReport.{SessionReport}

abbrev Placed : Type 0
Placed = ℕ × LineAnswer

-- these sessions with further answers, where the first of them has this number
abbrev pub with_answers : ℕ → List (List ℕ × List LineAnswer) → List Placed → List (List ℕ × List LineAnswer)
with_answers session [] answers = []
with_answers session (first ∷ others) answers = (first.0, first.1 ++ answers_of_session session answers) ∷ with_answers (session + 1) others answers

pub with_answers-none : (session : ℕ) (sessions : List (List ℕ × List LineAnswer)) → with_answers session sessions [] ≡ sessions
with_answers-none session [] = refl
with_answers-none session (first ∷ others) =
    λ i. (first.0, append-nil first.1 i) ∷ with_answers-none (session + 1) others i

pub with_answers-all : (session : ℕ) (names : List (List ℕ)) (answers : List Placed)
    → with_answers session (map (λ name. (name, [])) names) answers ≡ sessions_from session names answers
with_answers-all session [] answers = refl
with_answers-all session (name ∷ names) answers =
    λ i. (name, answers_of_session session answers) ∷ with_answers-all (session + 1) names answers i

answers-own : (session : ℕ) (answer : Placed) (answers : List Placed) → answer.0 ≡ session
    → answers_of_session session (answer ∷ answers) ≡ answer.1 ∷ answers_of_session session answers
answers-own session answer answers own = grind (arith, nat_tests)

answers-other : (session : ℕ) (answer : Placed) (answers : List Placed) → answer.0 ≢ session
    → answers_of_session session (answer ∷ answers) ≡ answers_of_session session answers
answers-other session answer answers other = grind (arith, nat_tests)

-- the answer to a line of an earlier session is none of these sessions'
with_answers-earlier : (session : ℕ) (sessions : List (List ℕ × List LineAnswer)) (answer : Placed) (answers : List Placed) → answer.0 < session
    → with_answers session sessions (answer ∷ answers) ≡ with_answers session sessions answers
with_answers-earlier session [] answer answers earlier = refl
with_answers-earlier session (first ∷ others) answer answers earlier =
    let skipped = answers-other session answer answers (omega arith) in
    λ i. (first.0, first.1 ++ skipped i) ∷ with_answers-earlier (session + 1) others answer answers (omega arith) i

-- an answer that is filed with its session is one further answer less
with_answers-filed : (session place : ℕ) (reports : List SessionReport) (old filed : SessionReport) (answer : Placed) (answers : List Placed)
    → answer.0 ≡ session + place → place < length reports → old ≡ get_or reports place old → filed.name ≡ old.name → filed.answers.items ≡ old.answers.items ++ answer.1 ∷ []
    → with_answers session (answers_by_session (set reports place filed)) answers ≡ with_answers session (answers_by_session reports) (answer ∷ answers)
with_answers-filed session place [] old filed answer answers is within read name items = absurd (omega arith)
with_answers-filed session zero (first ∷ others) old filed answer answers is within read name items =
    let own = answers-own session answer answers (omega arith) in
    let same_name : filed.name ≡ first.name = name ∙ ap (λ (report : SessionReport). report.name) read in
    let same_items : filed.answers.items ≡ first.answers.items ++ answer.1 ∷ [] =
    items ∙ ap (λ (report : SessionReport). report.answers.items ++ answer.1 ∷ []) read in
    let joined : filed.answers.items ++ answers_of_session session answers ≡ first.answers.items ++ answers_of_session session (answer ∷ answers) =
    ap (λ front. front ++ answers_of_session session answers) same_items
    ∙ append_assoc first.answers.items (answer.1 ∷ []) (answers_of_session session answers)
    ∙ ap (λ more. first.answers.items ++ more) (sym own) in
    let rest = sym (with_answers-earlier (session + 1) (answers_by_session others) answer answers (omega arith)) in
    λ i. (same_name i, joined i) ∷ rest i
with_answers-filed session (suc place) (first ∷ others) old filed answer answers is within read name items =
    let skipped = sym (answers-other session answer answers (omega arith)) in
    λ i. (first.name, first.answers.items ++ skipped i) ∷ with_answers-filed (session + 1) place others old filed answer answers (omega arith) (omega arith) read name items i

-- with these answers the reports tell what is wanted
pub record IsUnderWay (reports : List SessionReport) (answers : List Placed) (wanted : List (List ℕ × List LineAnswer)) : Type 0 where
  pub seated : All (λ answer. answer.0 < length reports) answers
  pub told_all : with_answers 0 (answers_by_session reports) answers ≡ wanted

pub under_way_first : (names : List (List ℕ)) (reports : List SessionReport) (answers left : List Placed)
    → answers_by_session reports ≡ map (λ name. (name, [])) names → All (λ answer. answer.0 < length names) answers → answers ≡ left → IsUnderWay reports left (sessions_from 0 names answers)
under_way_first names reports answers left unanswered seated answers_left =
    let tell : SessionReport → List ℕ × List LineAnswer = λ report. (report.name, report.answers.items) in
    let start : List ℕ → List ℕ × List LineAnswer = λ name. (name, []) in
    let as_many : length reports ≡ length names = sym (length-map reports tell) ∙ ap length unanswered ∙ length-map names start in
    subst (λ ls. IsUnderWay reports ls (sessions_from 0 names answers)) answers_left (record {
      seated = λ k answer short. omega (arith, seated k answer short);
      told_all = ap (λ sessions. with_answers 0 sessions answers) unanswered ∙ with_answers-all 0 names answers;
    })

pub under_way_next : (reports : List SessionReport) (old filed : SessionReport) (all answers : List Placed) (answer : Placed) (wanted : List (List ℕ × List LineAnswer))
    → IsUnderWay reports all wanted → all ≡ answer ∷ answers → old ≡ get_or reports answer.0 old → filed.name ≡ old.name → filed.answers.items ≡ old.answers.items ++ answer.1 ∷ []
    → IsUnderWay (set reports answer.0 filed) answers wanted
under_way_next reports old filed all answers answer wanted way are read name items =
    let here : IsUnderWay reports (answer ∷ answers) wanted = subst (λ ls. IsUnderWay reports ls wanted) are way in
    record {
      seated = λ k other short. omega (arith, length-set reports answer.0 filed, here.seated (suc k) other (omega arith));
      told_all = with_answers-filed 0 answer.0 reports old filed answer answers (omega arith) (here.seated 0 answer (omega arith)) read name items ∙ here.told_all;
    }

pub under_way_seated : (reports : List SessionReport) (all answers : List Placed) (answer : Placed) (wanted : List (List ℕ × List LineAnswer))
    → IsUnderWay reports all wanted → all ≡ answer ∷ answers → answer.0 < length reports
under_way_seated reports all answers answer wanted way are =
    let here : IsUnderWay reports (answer ∷ answers) wanted = subst (λ ls. IsUnderWay reports ls wanted) are way in here.seated 0 answer (omega arith)

pub under_way_last : (reports : List SessionReport) (answers : List Placed) (wanted : List (List ℕ × List LineAnswer))
    → IsUnderWay reports answers wanted → length answers ≡ 0 → answers_by_session reports ≡ wanted
under_way_last reports [] wanted way none = sym (with_answers-none 0 (answers_by_session reports)) ∙ way.told_all
under_way_last reports (answer ∷ answers) wanted way none = absurd (omega arith)

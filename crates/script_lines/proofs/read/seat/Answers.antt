use Rattle.std.proofs.Common.{◌≡◌, ◌∙◌, ◌++◌, ◌∷◌, [], List, ℕ, None, position, length, subst, sym, ap, rules, refl, arith}
use Rattle.std.specs.Str.{bytes_eq}
use Rattle.script_lines.specs.Adding.{IsNotSeated, Seats}
use Rattle.script_lines.specs.declared.refusal.ScriptRefusal.{ScriptRefusal}
use Rattle.script_lines.proofs.Sessions.{none_passes, seats_found, seats_new}
use Rattle.script_lines.proofs.read.seat.Goals as goal

pub returns-in-Some-clause-ok : goal.returns-in-Some-clause-ok
returns-in-Some-clause-ok c = seats_found _ _ _ (search rules)

pub returns-clause-ok : goal.returns-clause-ok
returns-clause-ok c =
    let names = c.args.sessions.now in
    let name = c.args.name.now in
    let new : position (λ other. bytes_eq other name) names ≡ None = search rules in
    let more : c.push.new.self ≡ names ++ name ∷ [] = c.in_ok-push.ensures.ok ∙ ap (λ (n : List ℕ). names ++ n ∷ []) c.in_ok-new.ensures in
    let at : c.len-place.result ≡ length names = search rules in
    let P : List (List ℕ) → Type 0 = λ all. Seats names all name c.len-place.result in
    let Q : ℕ → Type 0 = λ place. Seats names (names ++ name ∷ []) name place in
    subst P (sym more) (subst Q (sym at) (seats_new names name new))

pub returns-then-place-ge-MOST_SESSIONS-clause-err : goal.returns-then-place-ge-MOST_SESSIONS-clause-err
returns-then-place-ge-MOST_SESSIONS-clause-err c =
    let names = c.args.sessions.now in
    let name = c.args.name.now in
    let new : position (λ other. bytes_eq other name) names ≡ None = search rules in
    let at : c.len-place.result ≡ length names = search rules in
    let P : ScriptRefusal → Type 0 = λ refusal. IsNotSeated names name refusal in
    subst P (sym c.beyond.ensures) (refl, omega (arith, at, c.if-place-ge-MOST_SESSIONS.true), none_passes (λ other. bytes_eq other name) names new)

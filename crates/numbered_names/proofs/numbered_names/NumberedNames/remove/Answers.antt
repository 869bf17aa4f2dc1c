use Rattle.std.proofs.Common.{◌≡◌, ◌∙◌, ◌+◌, ◌<◌, ℕ, List, ap, sym, subst, get_or, length}
use Rattle.std.proofs.lemmas.Option.{slice_get_within}
use Rattle.numbered_names.proofs.Removing.{gone_name}
use Rattle.numbered_names.proofs.numbered_names.NumberedNames.remove.Goals as goal

pub returns-clause-names : goal.returns-clause-names
returns-clause-names g c =
    let s = c.self.inside in
    let place = c.in_ok-place.field-0.now in
    let read = c.in_ok-place.ensures.lookup.3 in
    let within : c.args.number < length s.places.items = subst (λ (p : List ℕ). c.args.number < length p) c.deref.ensures.value read.0 in
    let at : get_or s.places.items c.args.number 0 ≡ place = sym (read.1 0 ∙ ap (λ p. get_or p c.args.number 0) c.deref.ensures.value) in
    let ends : c.len-last.result + 1 ≡ length s.names.keys = ap (λ n. n + 1) c.len-last.ensures.len ∙ c.in_ok-name.ensures.len in
    let same : length c.exchange.new.places.items ≡ length s.places.items =
    sym c.exchange.new.places.ok.0 ∙ c.exchange.ensures.len ∙ s.places.ok.0 in
    gone_name s.names.keys s.numbers.items s.places.items c.args.self.now.names (ap (λ v. v.names) c.self.view_is) c.self.invariant.inverse
    c.args.number c.exchange.new.places.items c.swap_remove_index.new.self.keys place c.len-last.result c.in_ok-name.name
    within at (slice_get_within s.names.keys place c.in_ok-name.name (sym c.in_ok-name.ensures.key)) ends same
    (λ other inside. c.exchange.ensures.places other (subst (λ n. other < n) (sym s.places.ok.0) inside)) c.in_ok-name.ensures.keys

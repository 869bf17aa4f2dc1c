use Rattle.std.proofs.Common.{◌≡◌, ◌∙◌, ap, length, rules}
use Rattle.acl_names.specs.Text.{text_eq}
use Rattle.acl_model.specs.Counts.{same_pair}
use Rattle.acl_model.specs.Rows.{same_row}
use Rattle.acl_rows.specs.Uses.{distinct, edge_of, object_of, pair_of, schema_of}
use Rattle.acl_rows.proofs.Distinct.{over_edges, over_objects, over_pairs, over_schemas}
use Rattle.acl_rows.proofs.Rooms.{over_accounts}
use Rattle.acl_rows.proofs.rows.Rows.exceeds.Goals as goal

pub returns-in-Accounts : goal.returns-in-Accounts
returns-in-Accounts c =
    let n : c.len.result ≡ length c.self.inside.accounts.items = search rules in
    rw (c.in-Accounts.is, ← c.self.view_is) (over_accounts _ c.self.invariant c.len.result n)

pub returns-in_ok-schemas-in-Schemas : goal.returns-in_ok-schemas-in-Schemas
returns-in_ok-schemas-in-Schemas c =
    let n : c.len-in-Schemas.result ≡ length c.in_ok-schemas-in-Schemas.field-0.items = search rules in
    rw (c.in-Schemas.is, ← c.self.view_is)
    (over_schemas _ c.len-in-Schemas.result (n ∙ ap length (c.in_ok-schemas-in-Schemas.ensures ∙ ap (distinct text_eq schema_of) c.deref.ensures.value)))

pub returns-in_ok-pairs-in-Pairs : goal.returns-in_ok-pairs-in-Pairs
returns-in_ok-pairs-in-Pairs c =
    let n : c.len-in-Pairs.result ≡ length c.in_ok-pairs-in-Pairs.field-0.items = search rules in
    rw (c.in-Pairs.is, ← c.self.view_is)
    (over_pairs _ c.len-in-Pairs.result (n ∙ ap length (c.in_ok-pairs-in-Pairs.ensures ∙ ap (distinct same_pair pair_of) c.deref-in-Pairs.ensures.value)))

pub returns-in_ok-objects-in-Objects : goal.returns-in_ok-objects-in-Objects
returns-in_ok-objects-in-Objects c =
    let n : c.len-in-Objects.result ≡ length c.in_ok-objects-in-Objects.field-0.items = search rules in
    rw (c.in-Objects.is, ← c.self.view_is)
    (over_objects _ c.len-in-Objects.result (n ∙ ap length (c.in_ok-objects-in-Objects.ensures ∙ ap (distinct same_row object_of) c.deref-in-Objects.ensures.value)))

pub returns-in_ok-edges-in-Edges : goal.returns-in_ok-edges-in-Edges
returns-in_ok-edges-in-Edges c =
    let n : c.len-in-Edges.result ≡ length c.in_ok-edges-in-Edges.field-0.items = search rules in
    rw (c.in-Edges.is, ← c.self.view_is)
    (over_edges _ c.len-in-Edges.result (n ∙ ap length (c.in_ok-edges-in-Edges.ensures ∙ ap (distinct same_row edge_of) c.deref-in-Edges.ensures.value)))

-- What options do not give, where a part of it is not there: for `read_limits` and `read_sim`.
use Rattle.std.proofs.Common.{◌≡◌, ℕ, codes, List, Some, None, sym, subst, ◌∙◌}
use Rattle.clap.specs.Words.{Row, all_of}
use Rattle.stamps.specs.Bounds.{IsClients, IsRoom}
use Rattle.command_line.specs.Asked.{GivesNoLimits, GivesNoStore}
use Rattle.command_line.specs.Words.{AreTenants, IsOptionNumber}
use Rattle.command_line.proofs.WordsRead.{one_number}

-- numbers out of range are no limits
pub out_of_range : (rows : List Row) (slots items clients : ℕ) → IsOptionNumber (codes "slots") rows slots → IsOptionNumber (codes "items") rows items → IsOptionNumber (codes "clients") rows clients
    → ((IsRoom slots × IsRoom items × IsClients clients) → ⊥) → GivesNoLimits rows
out_of_range rows slots items clients of_slots of_items of_clients none = λ limits given. none (
  rw (one_number (codes "slots") rows slots limits.slots of_slots given.of_slots) limits.slots_in_range,
  rw (one_number (codes "items") rows items limits.items of_items given.of_items) limits.items_in_range,
  rw (one_number (codes "clients") rows clients limits.clients of_clients given.of_clients) limits.clients_in_range,
)

pub no_names : (rows : List Row) → all_of (codes "tenant") rows ≡ None → GivesNoStore rows
no_names rows none = λ parts limits names store.
    let whole : Some names ≡ None = sym store.of_names ∙ none in
    absurd cc

pub bad_names : (rows : List Row) (words : List (List ℕ)) → all_of (codes "tenant") rows ≡ Some words → (AreTenants words → ⊥) → GivesNoStore rows
bad_names rows words given bad = λ parts limits names store.
    let whole : Some names ≡ Some words = sym store.of_names ∙ given in
    let same : names ≡ words = cc in
    bad (subst AreTenants same store.tenants)

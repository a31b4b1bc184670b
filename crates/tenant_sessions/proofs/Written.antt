-- Sessions whose map was written through what `get_mut` lent: for the calls of `Sessions` that change them, or read one.
use Rattle.std.proofs.Common.{◌≡◌, ℕ, nat_eq, refl, sym, ap, ◌∙◌, subst, cond, length, Option, Some, None}
use Rattle.std.specs.Prelude.{IsSome}
use Rattle.std.specs.Borrow.{Bor, MutBor}
use Rattle.std.specs.Option.{option_copied, option_copied_mut}
use Rattle.indexmap.specs.IndexMap.{IndexMap, get, WritesThrough}
use Rattle.tenant_sessions.specs.declared.session.ClientSession.{ClientSession}
use Rattle.tenant_sessions.specs.Content.{SessionsContent, client_in, HoldsSession}

-- what contracts see of the fields
abbrev pub content_of : {S : Type 0} → ℕ → ℕ → IndexMap ℕ ClientSession S → SessionsContent
content_of parts limit m = record { parts = parts; limit = limit; clients = m.entries }

module _ {S : Type 0} (parts limit : ℕ) (m : IndexMap ℕ ClientSession S) (old : SessionsContent) (is : ◌≡◌ {A = SessionsContent} (record { parts = parts; limit = limit; clients = m.entries }) old) where
  held_is : (client : ℕ) → client_in old client ≡ get nat_eq m client
  held_is client = ap (λ (c : SessionsContent). client_in c client) (sym is)

  -- what was found of the client
  pub found_held : (client key : ℕ) (o : Option (MutBor ClientSession)) (held : MutBor ClientSession) → key ≡ client → option_copied_mut o ≡ get nat_eq m key → o ≡ Some held → client_in old client ≡ Some held.now
  found_held client key o held k found at = held_is client ∙ ap (get nat_eq m) (sym k) ∙ sym found ∙ ap option_copied_mut at

  pub found_none : (client key : ℕ) (o : Option (MutBor ClientSession)) → key ≡ client → option_copied_mut o ≡ get nat_eq m key → o ≡ None → client_in old client ≡ None
  found_none client key o k found at = held_is client ∙ ap (get nat_eq m) (sym k) ∙ sym found ∙ ap option_copied_mut at

  -- what is written holds of the client
  pub written_holds : (client key : ℕ) (n : IndexMap ℕ ClientSession S) (w held : ClientSession) → key ≡ client → client_in old client ≡ Some held → WritesThrough nat_eq (nat_eq key) m w n
      → HoldsSession old (record { parts = parts; limit = limit; clients = n.entries }) client w × (length n.entries ≡ length old.clients)
  written_holds client key n w held k at writes = (
    record {
      parts = ap (λ (c : SessionsContent). c.parts) is;
      limit = ap (λ (c : SessionsContent). c.limit) is;
      each = λ other. (writes.3 (subst (λ (o : Option ClientSession). IsSome o) (sym there) (some held))).0 other
          ∙ (λ i. cond (nat_eq (k i) other) (Some w) (sym (held_is other) i));
    },
    writes.2 ∙ ap (λ (c : SessionsContent). length c.clients) is,
  )
    where
      there : get nat_eq m key ≡ Some held
      there = ap (get nat_eq m) k ∙ sym (held_is client) ∙ at

      some : (h : ClientSession) → IsSome (Some h)
      some h = refl

  -- the same of what was read
  pub read_held : (client key : ℕ) (o : Option (Bor ClientSession)) (held : Bor ClientSession) → key ≡ client → option_copied o ≡ get nat_eq m key → o ≡ Some held → client_in old client ≡ Some held.now
  read_held client key o held k found at = held_is client ∙ ap (get nat_eq m) (sym k) ∙ sym found ∙ ap option_copied at

  pub read_none : (client key : ℕ) (o : Option (Bor ClientSession)) → key ≡ client → option_copied o ≡ get nat_eq m key → o ≡ None → client_in old client ≡ None
  read_none client key o k found at = held_is client ∙ ap (get nat_eq m) (sym k) ∙ sym found ∙ ap option_copied at

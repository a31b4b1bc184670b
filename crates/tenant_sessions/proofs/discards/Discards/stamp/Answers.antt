use Rattle.std.proofs.Common.{◌≡◌, ℕ, List, [], ◌∷◌, map, refl, subst}
use Rattle.std.specs.Prelude.{All}
use Rattle.std.proofs.lemmas.List.Elements.{All-cons, All-nil}
use Rattle.plain_store.specs.Writing.{Outgoing}
use Rattle.plain_store.specs.declared.calls.Call.TheVariants.{Discard}
use Rattle.tenant_sessions.proofs.discards.Discards.stamp.Goals as goal

all_of : (stamp : ℕ) (partitions : List ℕ)
    → All (λ (out : Outgoing). out.call ≡ Discard stamp) (map (λ (partition : ℕ). let out : Outgoing = record { partition = partition; call = Discard stamp } in out) partitions)
all_of stamp [] = All-nil (λ (out : Outgoing). out.call ≡ Discard stamp)
all_of stamp (p ∷ ps) =
    All-cons (λ (out : Outgoing). out.call ≡ Discard stamp) (record { partition = p; call = Discard stamp })
    (map (λ (partition : ℕ). let out : Outgoing = record { partition = partition; call = Discard stamp } in out) ps) refl (all_of stamp ps)

pub returns : goal.returns
returns c =
    let P : List Outgoing → Type 0 = λ outs. All (λ (out : Outgoing). out.call ≡ Discard c.self.inside.stamp) outs in
    subst P c.self.view_is (all_of c.self.inside.stamp c.self.inside.partitions)

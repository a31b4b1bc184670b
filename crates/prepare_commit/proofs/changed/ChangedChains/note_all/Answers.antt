use Rattle.std.proofs.Common.{◌<◌, Bool, true, false, inl, inr, List, length, set, get_or, ap, ◌∙◌, arith}
use Rattle.std.proofs.lemmas.List.{length-set, get_or-set_same, get_or-set_other}
use Rattle.version_chain.proofs.Replacing.{same_or_not}
use Rattle.prepare_commit.proofs.changed.ChangedChains.note_all.Goals as goal

pub loop-chain-preserved : goal.loop-chain-preserved
loop-chain-preserved c =
    let flags = c.loop-chain.self in
    let chain = c.loop-chain.chain in
    let less : chain < length flags = omega (arith, c.loop-chain-test.true, c.loop-chain.invariant.0, c.requires) in (
      ap (λ (bs : List Bool). length bs) c.note.ensures ∙ length-set flags chain true ∙ c.loop-chain.invariant.0,
      λ n within. ap (λ (bs : List Bool). get_or bs n false) c.note.ensures ∙ elim (same_or_not n chain) [
        | inl same ↦ ap (λ k. get_or (set flags chain true) k false) same ∙ get_or-set_same flags chain true false less
        | inr other ↦ get_or-set_other flags chain n true false other ∙ c.loop-chain.invariant.1 n (omega (arith, within, other))
      ],
    )

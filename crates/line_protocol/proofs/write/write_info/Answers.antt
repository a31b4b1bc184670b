use Rattle.std.proofs.Common.{List, ℕ, ◌∷◌, [], ◌++◌, ◌∙◌, ap, append_assoc, codes, decimal, rules, sym}
use Rattle.line_protocol.proofs.Appending.{Appends-trans}
use Rattle.line_protocol.proofs.write.write_info.Goals as goal

pub returns-then-newest : goal.returns-then-newest
returns-then-newest c =
    let version = Appends-trans _ _ _ _ _ _ _ c.put.ensures c.put-2.ensures in
    let store = Appends-trans _ _ _ _ _ _ _ (Appends-trans _ _ _ _ _ _ _ version c.put-3.ensures) c.put_number.ensures in
    let all = Appends-trans _ _ _ _ _ _ _ store c.put-then-newest.ensures in
    let ended = append_assoc (decimal c.args.store) (codes " newest=yes") (10 ∷ []) in
    let put = (rw c.as_bytes.ensures.value at all.items) ∙ ap (λ (t : List ℕ). c.args.out.now.items ++ (codes "info version=0.3.0 store=" ++ t)) (sym ended) in
    record { succeeds = search rules; ok = rw c.if-newest.true put; err = search rules; room = search rules }

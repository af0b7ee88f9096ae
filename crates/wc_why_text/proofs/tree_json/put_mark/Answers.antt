use Rattle.wc_why_text.proofs.TokenLemmas.{both, closed, wrote}
use Rattle.wc_why_text.proofs.tree_json.put_mark.Goals as goal

pub returns : goal.returns
returns c = closed _ _ (both (wrote c.in_ok-key.ensures) (wrote c.in_ok-boolean.ensures)) c.end_object.ensures

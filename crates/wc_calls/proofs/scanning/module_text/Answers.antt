use Rattle.wc_calls.proofs.ScanningLemmas.{scanned}
use Rattle.wc_calls.proofs.scanning.module_text.Goals as goal

pub returns-in-Ok : goal.returns-in-Ok
returns-in-Ok c = scanned _ _ _ c.scan_to_json.result c.requires c.in-Ok.ensures.found c.scan_to_json.ensures.text

-- Every plain change keeps the settings.
use Rattle.kern_model.proofs.Common.{◌≡◌, ◌∙◌, Settings}
use Rattle.kern_laws.proofs.Changes.Parts.{Keeps}

pub keeps-settings : (s : Settings) → Keeps s (λ k. k.settings ≡ s)
keeps-settings s =
    record {
      wake = λ f h x k w e. e.settings;
      block = λ k x w b e. e.settings;
      moves = λ place x p k v who a from to e. e.settings;
      content = λ k o old new h same word e. e.settings;
      taken = λ k o n x h who e. e.settings;
      owned = λ k o m n v x h who from to e. e.settings;
      freed = λ k o m v h none e. e.settings;
      deleted = λ k o content h plain none e. e.settings;
      timer_runs = λ k o after t h e. e.settings;
      timer_rests = λ k o t state h still e. e.settings;
      timer_deleted = λ k o t v h still e. e.settings;
      task = λ k x f same e. e.settings;
      based = λ k x p inside from to e. e.settings;
      stores = λ k x ms room words e. e.settings;
      answers = λ k x a plain e. e.settings;
      ended = λ k outcome x v inside e. e.settings;
      died = λ k x v inside r e. e.settings;
      internal = λ k x w v who to e. e.settings;
      rest = λ k j same e. same.settings ∙ e.settings;
    }

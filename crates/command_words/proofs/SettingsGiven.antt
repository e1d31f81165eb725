-- Settings from their numbers and their start.
use Rattle.std.proofs.Common.{◌≡◌, ℕ, Option, Some, None, ap, ◌∙◌}
use Rattle.pn_types.specs.declared.settings.Start.{Start}
use Rattle.command_words.specs.Requests.{settings_told}

told : (harts budget bins width instruments : ℕ) (h b n w i : Option ℕ) (s : Option Start) → Some harts ≡ h → Some budget ≡ b → Some bins ≡ n → Some width ≡ w → Some instruments ≡ i →
    settings_told (Some harts) (Some budget) (Some bins) (Some width) (Some instruments) s ≡ settings_told h b n w i s
told harts budget bins width instruments h b n w i s e1 e2 e3 e4 e5 =
    ap (λ x. settings_told (Some harts) (Some budget) (Some bins) (Some width) x s) e5
    ∙ ap (λ x. settings_told (Some harts) (Some budget) (Some bins) x i s) e4
    ∙ ap (λ x. settings_told (Some harts) (Some budget) x w i s) e3
    ∙ ap (λ x. settings_told (Some harts) x n w i s) e2
    ∙ ap (λ x. settings_told x b n w i s) e1

pub all_told : (harts budget bins width instruments : ℕ) (start : Start) (h b n w i : Option ℕ) (s : Option Start) → Some harts ≡ h → Some budget ≡ b → Some bins ≡ n → Some width ≡ w → Some instruments ≡ i → Some start ≡ s →
    Some (record { harts = harts; budget = budget; bins = bins; width = width; start = start; instruments = instruments }) ≡ settings_told h b n w i s
all_told harts budget bins width instruments start h b n w i s e1 e2 e3 e4 e5 e6 =
    ap (settings_told (Some harts) (Some budget) (Some bins) (Some width) (Some instruments)) e6 ∙ told harts budget bins width instruments h b n w i s e1 e2 e3 e4 e5

pub start_untold : (harts budget bins width instruments : ℕ) (h b n w i : Option ℕ) (s : Option Start) → Some harts ≡ h → Some budget ≡ b → Some bins ≡ n → Some width ≡ w → Some instruments ≡ i → None ≡ s → None ≡ settings_told h b n w i s
start_untold harts budget bins width instruments h b n w i s e1 e2 e3 e4 e5 e6 =
    ap (settings_told (Some harts) (Some budget) (Some bins) (Some width) (Some instruments)) e6 ∙ told harts budget bins width instruments h b n w i s e1 e2 e3 e4 e5

pub last_untold : (harts budget bins width : ℕ) (h b n w i : Option ℕ) (s : Option Start) → Some harts ≡ h → Some budget ≡ b → Some bins ≡ n → Some width ≡ w → None ≡ i → None ≡ settings_told h b n w i s
last_untold harts budget bins width h b n w i s e1 e2 e3 e4 e5 =
    ap (λ x. settings_told (Some harts) (Some budget) (Some bins) (Some width) x s) e5
    ∙ ap (λ x. settings_told (Some harts) (Some budget) (Some bins) x i s) e4
    ∙ ap (λ x. settings_told (Some harts) (Some budget) x w i s) e3
    ∙ ap (λ x. settings_told (Some harts) x n w i s) e2
    ∙ ap (λ x. settings_told x b n w i s) e1

-- The style of the page.
use Rattle.std.specs.Prelude.{ℕ, List, [], ◌∷◌, ◌++◌, codes}
use Rattle.std.specs.List.{flat_map}
use Rattle.bs_bits.specs.Lines.{line}

abbrev pub rules : List (List ℕ)
rules =
    codes ":root{color-scheme:light dark;--ink:#1c2430;--dim:#56606e;--line:#d9dee6;--paper:#fff;--soft:#f4f6f9;--wave:#1f5fae;--fill:#e6effa;--hit:#9a4a00;--dump:#b3202c;--last:#fdecee;--open:#c2410c73}" ∷
    codes "@media (prefers-color-scheme:dark){:root{--ink:#e2e6ec;--dim:#a3acb9;--line:#39414d;--paper:#14181e;--soft:#1d232b;--wave:#74aef5;--fill:#21344d;--hit:#f0a860;--dump:#ff8a92;--last:#3a2024;--open:#ff9a5799}}" ∷
    codes "*{box-sizing:border-box}" ∷
    codes "body{margin:0 auto;padding:20px;max-width:1600px;color:var(--ink);background:var(--paper);font:14px/1.45 system-ui,DejaVu Sans,sans-serif}" ∷
    codes "h1{font-size:22px;margin:0}" ∷
    codes "h2{font-size:16px;margin:24px 0 6px}" ∷
    codes "p{max-width:860px;margin:6px 0}" ∷
    codes "ul{padding:0;margin:6px 0;max-width:860px}" ∷
    codes "li{list-style:none;overflow-wrap:anywhere}" ∷
    codes ".d{color:var(--dim)}" ∷
    codes "pre,td,.s,.w th{font-family:ui-monospace,DejaVu Sans Mono,monospace;font-size:12px}" ∷
    codes "pre{background:var(--soft);border:1px solid var(--line);padding:8px 10px;margin:6px 0;white-space:pre-wrap;overflow-wrap:anywhere}" ∷
    codes "div{border:1px solid var(--line);overflow:auto;max-height:85vh;max-width:100%;width:fit-content}" ∷
    codes "div:focus-visible{outline:2px solid var(--wave)}" ∷
    codes ".late{direction:rtl}" ∷
    codes ".late table{direction:ltr}" ∷
    codes "table{border-collapse:separate;border-spacing:0}" ∷
    codes "th{font-weight:400;text-align:left}" ∷
    codes "thead th{color:var(--dim);background:var(--soft);position:sticky;top:0;z-index:2}" ∷
    codes ".t th,.t td{padding:3px 12px;border-bottom:1px solid var(--line);white-space:nowrap;text-align:right}" ∷
    codes ".n tr>:first-child{left:0;text-align:left;white-space:normal;overflow-wrap:anywhere;min-width:min(220px,30vw)}.n tbody th{position:sticky;z-index:1;background:var(--paper);font-family:ui-monospace,DejaVu Sans Mono,monospace;font-size:12px}.n thead>tr>:first-child{z-index:3}" ∷
    codes ".w{table-layout:fixed;width:1px;background:linear-gradient(270deg,var(--last) 88px,#0000 0)}" ∷
    codes ".w th{width:88px;padding:1px 2px}" ∷
    codes ".w tr>:first-child{width:300px;padding:2px 10px;text-align:left;overflow-wrap:anywhere;position:sticky;left:0;z-index:1;background:var(--paper);border-right:1px solid var(--line)}" ∷
    codes ".w thead th{text-align:center;vertical-align:top;border-bottom:1px solid var(--line)}" ∷
    codes ".w thead>tr>:first-child{z-index:3;background:var(--soft)}" ∷
    codes ".w span{display:block;white-space:nowrap}" ∷
    codes ".w .r{color:var(--hit)}" ∷
    codes ".w .x{color:var(--dump);font-weight:600}" ∷
    codes ".w tr>.g{color:var(--dim);padding-top:10px}" ∷
    codes ".w td{height:22px;padding:3px 0;vertical-align:top;overflow:clip;white-space:nowrap;--e:linear-gradient(#0000,#0000);--o:linear-gradient(#0000,#0000);background:var(--e),var(--o),repeating-linear-gradient(90deg,var(--line) 0 1px,#0000 0 88px),var(--b);background-origin:content-box;background-clip:content-box;background-size:auto 16px;background-repeat:repeat-x}" ∷
    codes ".w .h{--b:linear-gradient(var(--wave) 1.5px,var(--fill) 0)}" ∷
    codes ".w .l{--b:linear-gradient(#0000 calc(100% - 1.5px),var(--wave) 0)}" ∷
    codes ".w .v{--b:linear-gradient(var(--wave) 1.5px,var(--fill) 0 calc(100% - 1.5px),var(--wave) 0)}" ∷
    codes ".w .v,.w .h+.l,.w .l+.h{--e:linear-gradient(90deg,var(--wave) 1.5px,#0000 0)}" ∷
    codes ".w .u{--o:repeating-linear-gradient(135deg,var(--open) 0 1.5px,#0000 0 6px)}" ∷
    codes ".w b{font-weight:400;display:inline-block;position:sticky;left:305px;padding:0 5px;max-width:100%;overflow:clip;text-overflow:ellipsis;line-height:13px;margin-top:1.5px;vertical-align:top}" ∷
    codes ".w .h b,.w .l b{opacity:0}" ∷
    codes ".w .v.u b{text-shadow:0 0 2px var(--fill),0 0 2px var(--fill),0 0 3px var(--fill),0 0 3px var(--fill)}" ∷
    codes ".w tr>:first-child span{white-space:normal}" ∷
    codes "@media (max-width:800px){body{padding:10px}.w tr>:first-child{width:130px;padding:2px 6px}.w b{left:135px}}" ∷
    codes "@media print{body{max-width:none}div{max-height:none;overflow:visible}}" ∷
    []

unfoldable pub rules_text : List ℕ
rules_text = flat_map line rules

abbrev pub style_text : List ℕ
style_text = codes "<style>\n" ++ (rules_text ++ codes "</style>\n")

-- the same, with the style of the names that are marked
abbrev pub marks_style : List ℕ
marks_style = style_text ++ codes "<style>\nth.m{box-shadow:inset 3px 0 var(--wave)}\nth.m span{display:inline;color:var(--dim)}\n</style>\n"

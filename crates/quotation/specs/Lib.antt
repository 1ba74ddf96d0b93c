-- From a sheet to its appendix.
pub mod Quotations
